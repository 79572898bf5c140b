-- `among` meets its contract. The words and codes that are left tell the code, and leave room for a word to each code. Assumes nothing.
use Rattle.text.proofs.FormLaws.{WordsLeft}
use Rattle.text.proofs.words.among.Given as goal

abbrev pub invariant-loop-code : goal.invariant-loop-code
invariant-loop-code l = WordsLeft l.f l.words l.codes l.at l.code-index
