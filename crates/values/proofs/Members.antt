-- A loop over members where they lie: what is left at each turn, and the first of it. Assumes nothing.
use mathlib.Core.Path.{◌≡◌, refl, sym, ap, ◌∙◌}
use mathlib.Core.List.{List}
use Prim.Native.Nat.{ℕ, ◌+◌, ◌-◌, ◌<◌, ◌≤◌}
use native.Mathlib.Omega.{arith}
use lib.ListN.{length, length-append}
use lib.Seq.{slice, length-slice, slice_empty}
use Rattle.laws.proofs.Slices.{split_left, split_right}
use Rattle.ocl.specs.Values.{Value, Values, nil, cons}
use Rattle.values.specs.Cells.{enc, encs, Fits, AllFit, fit_cons}
use Rattle.values.specs.Meanings.{Skips}
use Rattle.values.proofs.Encoding.{some_cells}
use Rattle.values.proofs.Forming.{after_value}

-- the members `rest` lie from q to end
pub record Left (S : List ℕ) (q end : ℕ) (rest : Values) : Type 0 where
  pub fits : AllFit rest
  pub lies : slice q end S ≡ encs rest

-- they are w, which lies from q to r, and ws after it
pub record Next (S : List ℕ) (q end r : ℕ) (rest : Values) : Type 0 where
  pub w : Value
  pub ws : Values
  pub are : rest ≡ cons w ws
  pub fits : Fits w
  pub at : r ≡ q + length (enc w)
  pub cells : slice q (q + (r - q)) S ≡ enc w
  pub left : Left S r end ws

pub next_member : {S : List ℕ} {q end r : ℕ} {rest : Values} → end ≤ length S → q < end → Skips q end S r → Left S q end rest → Next S q end r rest
unfolding encs
next_member {S} {q} {end} {r} {rest} room h k l = by rest l.fits l.lies
  where
    by : (rest : Values) → AllFit rest → slice q end S ≡ encs rest → Next S q end r rest
    by nil f e = absurd (let a = sym (length-slice q end S room) ∙ ap length e in omega arith)
    by (cons w ws) (fit_cons f fs) e =
        let a = after_value (encs ws) f e k in
        let b : q + (r - q) ≡ q + length (enc w) = omega arith in
        record {
          w = w;
          ws = ws;
          are = refl;
          fits = f;
          at = a;
          cells = rw b (split_left S q end (enc w) (encs ws) room (omega arith) e);
          left = record { fits = fs; lies = rw a (split_right S q end (enc w) (encs ws) room (omega arith) e) };
        }

-- at the end nothing is left
pub none_left : {S : List ℕ} {q end : ℕ} {rest : Values} → Left S q end rest → q ≡ end → rest ≡ nil
unfolding encs
none_left {S} {q} {end} {rest} l h = by rest l.lies
  where
    by : (rest : Values) → slice q end S ≡ encs rest → rest ≡ nil
    by nil e = refl
    by (cons w ws) e = absurd (let a = ap length (sym (slice_empty end S) ∙ (rw h at e)) ∙ length-append (enc w) (encs ws) in let b = some_cells w in omega arith)
