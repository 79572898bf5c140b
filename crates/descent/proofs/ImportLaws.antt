-- A whole text: each return of the code that reads it. Assumes nothing.
use mathlib.Core.Path.{◌≡◌, refl, ap, ◌∙◌}
use mathlib.Core.Logic.{◌≢◌}
use mathlib.Core.Bool.{false}
use mathlib.Core.Option.{none, some}
use mathlib.Core.List.{List, []}
use Prim.Native.Nat.{ℕ, ◌+◌, ◌*◌}
use native.Mathlib.Omega.{arith}
use lib.ListN.{length}
use Rattle.laws.specs.Choice.{on_some}
use Rattle.sheet.specs.Text.{Bytes}
use Rattle.sheet.specs.Texts.{is_there, is_sentence}
use Rattle.sheet.specs.Grammar.Tokens.{Tokens}
use Rattle.sheet.specs.Grammar.Sentences.{whole}
use Rattle.sheet.specs.Grammar.Parser as parser
use Rattle.sheet.specs.Grammar.Parser.{rank, enough, at_end, sentence, reading_of}
use Rattle.tokens.specs.declared.Token.{Token}
use Rattle.tokens.specs.Meanings.{onward, NextIs}
use Rattle.emission.specs.Nodes.{HoldsNodes}
use Rattle.importer.specs.Answers.{Answers}
use Rattle.importer.specs.Descent.{FoundOne, FoundAt}
use Rattle.importer.specs.Imports.{no_sentence, a_sentence, Imports}
use Rattle.descent.proofs.FoundLaws.{found_kept, no_answer, one_found}
use Rattle.std.specs.Prelude.{Option as Optional, Some, None}

no_nodes : {k : ℕ} (w : List ℕ) → HoldsNodes k [] w
no_nodes w = record { at = λ i l. absurd (omega arith) }

reading_is : (a : Tokens) (o : parser.Found) → Answers whole a o → sentence a ≡ on_some o at_end
unfolding sentence enough
reading_is a o h = rw (h.answers (16 * length a + rank whole) (omega arith))

module _ {s : Bytes} {t : Token} (first : NextIs s 0 t) where
  reading : (o : parser.Found) → Answers whole (onward s t) o → reading_of s ≡ on_some o at_end
  unfolding reading_of
  reading o h = ap sentence first.rest ∙ reading_is (onward s t) o h

  refused : reading_of s ≡ none → is_sentence s ≡ false
  unfolding is_sentence is_there
  refused e = rw e

  module _ {k : ℕ} {w : List ℕ} {r : Optional (Token × ℕ)} {v : List ℕ} (x : FoundAt whole k s t 0 0 w r v) where
    pub import_none : r ≡ None → Imports k s w None v
    unfolding on_some
    import_none e = record { is = no_sentence (refused (reading none (no_answer x e))); kept = found_kept x }

    module _ {u : Token} {m : ℕ} (e : r ≡ Some (u, m)) where
      found : FoundOne whole k s t 0 0 w u m v
      found = one_found x e

      pub import_longer : u.code ≢ 65 → Imports k s w None v
      unfolding on_some at_end
      import_longer n = record { is = no_sentence (refused (reading (some (found.tree, onward s u)) found.answers ∙ rw (found.ahead.one n).1)); kept = found_kept x }

      pub import_all : u.code ≡ 65 → Imports k s w (Some m) v
      unfolding on_some at_end
      import_all z = record {
        is = a_sentence {n = m} record {
          tree = found.tree;
          reading = reading (some (found.tree, onward s u)) found.answers ∙ rw (found.ahead.none z);
          counted = let c = found.counted in omega arith;
          few = let c = found.counted in let f = found.from in let o = found.ahead.order in let i = found.ahead.within in omega arith;
          nodes = λ l. let c = found.counted in found.wrote.nodes (omega arith) [] refl (no_nodes w);
        };
        kept = found_kept x;
      }
