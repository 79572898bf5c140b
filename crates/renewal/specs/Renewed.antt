-- What the verdicts of a board come to after an edit of row a, on the sheet with the slots after it.
use Rattle.std.specs.Prelude.{◌≡◌, List, [], ℕ, ltb, length, get_or, Result, Ok, Err}
use Rattle.std.specs.Prelude.{if◌then◌else◌}
use Rattle.laws.specs.Lists.{concat}
use Rattle.ocl.specs.Types.{Ty}
use Rattle.sheet.specs.Text.{Bytes}
use Rattle.sheet.specs.Sheet.{Sheet}
use Rattle.sheet.specs.Calls.{Verdict, refusal, output_after}
use Rattle.board.specs.Board.{renewed, renewed_steps}
use Rattle.tables.specs.declared.Counts.{Counts}
use Rattle.tables.specs.Layout.{Kept}
use Rattle.rules.specs.Accepted.{Accepted}
use Rattle.moves.specs.Joined.{EndsAt, Stand}
use Rattle.renewal.specs.Touched.{Touches}
use Rattle.memory.specs.Refusals.{at}
use Rattle.memory.specs.declared.refusals.Refused.{Refused}
use Rattle.memory.specs.declared.refusals.Refusal.TheVariants.{SlipTooLong}

-- rule r's verdicts
abbrev pub pieces : List Bytes → ℕ → Bytes
pieces ls r = get_or ls r []

-- 18, or the answer; `answered` of board/specs/Calls.antt is this on the edited slots
abbrev pub renewal : ℕ → Sheet → ℕ → List Bytes → Verdict
renewal room s a ls =
    if ltb room (length (concat (renewed s a 0 s.rules ls))) then refusal 18
    else record {
      number = 0;
      steps = renewed_steps s a s.rules;
      place = 0;
      output = concat (renewed s a 0 s.rules ls);
    }

-- the code's answer for a verdict
pub data SaysRenewal : Result (ℕ × ℕ) Refused → Verdict → Type 0 where
  written : {n k : ℕ} (b : Bytes) → n ≡ length b → SaysRenewal (Ok (n, k)) (record { number = 0; steps = k; place = 0; output = b })
  too_long : SaysRenewal (Err (at SlipTooLong 0)) (refusal 18)

-- the verdicts were ls, of n rules; the verdict bytes were `out` and are `now`, and `placed` is where each rule's verdicts end
pub record GivesRenewal (out now : Bytes) (placed : List ℕ) (n : ℕ) (s : Sheet) (a : ℕ) (ls : List Bytes) (r : Result (ℕ × ℕ) Refused) : Type 0 where
  pub is : SaysRenewal r (renewal (length out) s a ls)
  pub output : now ≡ output_after (renewal (length out) s a ls) out
  pub ended : (renewal (length out) s a ls).number ≡ 0 → EndsAt placed (pieces (renewed s a 0 s.rules ls)) n

-- for each accepted sheet in the words, and verdicts whose ends are in `ends`; w2 was `before`
pub record RenewsTouched (st : Counts) (w0 w1 before after : List ℕ) (touched : ℕ) (ends : List ℕ) (out now : Bytes) (was placed : List ℕ) (r : Result (ℕ × ℕ) Refused) : Type 0 where
  pub for : (s : Sheet) (ts : List Ty) → Accepted st w0 w1 s ts → (a : ℕ) → Touches touched s a → (ls : List Bytes) → length ls ≡ st.rules
      → Stand ends out (pieces ls) st.rules → GivesRenewal out now placed st.rules s a ls r
  pub size : length now ≡ length out
  pub placed_size : length placed ≡ length was
  pub kept : Kept before after

pub record Renews (st : Counts) (w0 w1 before after : List ℕ) (a : ℕ) (ends : List ℕ) (out now : Bytes) (was placed : List ℕ) (r : Result (ℕ × ℕ) Refused) : Type 0 where
  pub for : (s : Sheet) (ts : List Ty) → Accepted st w0 w1 s ts → (ls : List Bytes) → length ls ≡ st.rules → Stand ends out (pieces ls) st.rules
      → GivesRenewal out now placed st.rules s a ls r
  pub size : length now ≡ length out
  pub placed_size : length placed ≡ length was
  pub kept : Kept before after
