-- `open_text` meets its contract. Assumes nothing.
use borrow.Author.Rules.{rules}
use Rattle.std.specs.Prelude.{◌≡◌, Err}
use Rattle.opening.proofs.Readings.{known_read, opens_sheet, opens_none}
use Rattle.opening.proofs.open_text.Goals as goal

pub accept_sheet-requires : goal.accept_sheet-requires
accept_sheet-requires c = record { least_words_in_bounds = search rules; known = known_read c.read_text.ensures c.in_ok-st.was }

pub returns-in_err-st : goal.returns-in_err-st
returns-in_err-st c = let e : c.from_residual.result ≡ Err c.in_err-st.field-0.0 = search rules in rw e (opens_none c.read_text.ensures c.in_err-st.was)

pub returns : goal.returns
returns c = opens_sheet c.read_text.ensures c.in_ok-st.was c.accept_sheet.ensures
