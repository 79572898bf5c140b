-- Reading as lines taken one after another: an accepted text is its lines, all taken, and a text whose lines are all taken is accepted.
-- Assumes nothing.
use mathlib.Core.Path.{◌≡◌, refl, sym, ap, ◌∙◌, subst}
use mathlib.Core.Bool.{Bool, true, false}
use mathlib.Core.Option.{Option, none, some, none-ne-some, some-injective}
use mathlib.Core.List.{List, [], ◌∷◌, ◌++◌}
use Prim.Native.Nat.{ℕ, suc, ◌+◌, ◌≤◌}
use native.Mathlib.Omega.{arith}
use lib.ListN.{length}
use Rattle.laws.specs.Choice.{on_some, map_some}
use Rattle.std.specs.Prelude.{if◌then◌else◌}
use Rattle.laws.proofs.Options.{on_some_some, map_some_some}
use Rattle.sheet.specs.Text.{Bytes, bytes, split, lines_of, fields_of}
use Rattle.sheet.specs.Lines.{Line, is, line_of, in_body}
use Rattle.sheet.specs.Sheet.{Sheet, empty, added, end_rule}
use Rattle.sheet.specs.Reading.{Step, taken, step_spelled, step, Reading, accepted, rejected, on_step, on_end, closing, read_last, read_lines, read_text}
use Rattle.sheet.proofs.Split.{split_laws}
use Rattle.sheet.proofs.Stays.{of_body, line_stays}
use Rattle.sheet.proofs.GoodLines.{Met}
use Rattle.sheet.proofs.Steps.{Steps, not_taken, takes, spelled_steps, met_step}
use Rattle.sheet.proofs.TextLaws.{lines_read, text_read}
use Rattle.sheet.proofs.NodesRead.{not_accepted}
use Rattle.profile.specs.RenumberedLines.{at_last, lines_from, lines_in}

-- ---- lines that are taken

-- before a line other than `N` and `X` an open rule ends
unfoldable pub closed_by : Bool → Sheet → Option Sheet
closed_by true s = some s
closed_by false s = end_rule s

-- from a sheet and the lines before it to a sheet and a number of lines
pub data Takes : Sheet → ℕ → List Line → Sheet → ℕ → Type 0 where
  takes_nil : {s : Sheet} {k : ℕ} → Takes s k [] s k
  takes_cons : {s t u : Sheet} {k j : ℕ} {x : Line} {xs : List Line} → closed_by (of_body x) s ≡ some t → Met t x → Takes (added t (suc k) x) (suc k) xs u j → Takes s k (x ∷ xs) u j

pub takes_join : {s t u : Sheet} {k j i : ℕ} {a b : List Line} → Takes s k a t j → Takes t j b u i → Takes s k (a ++ b) u i
takes_join takes_nil q = q
takes_join (takes_cons e m p) q = takes_cons e m (takes_join p q)

-- a middle
pub record Cut (s : Sheet) (k : ℕ) (a b : List Line) (u : Sheet) (i : ℕ) : Type 0 where
  pub sheet : Sheet
  pub number : ℕ
  pub left : Takes s k a sheet number
  pub right : Takes sheet number b u i

pub takes_cut : {s u : Sheet} {k i : ℕ} (a : List Line) {b : List Line} → Takes s k (a ++ b) u i → Cut s k a b u i
takes_cut {s} {k} [] p = record { sheet = s; number = k; left = takes_nil; right = p }
takes_cut {s = s} {u = u} {k = k} {i = i} (x ∷ a) {b = b} (takes_cons {t = t} e m p) = let c = takes_cut {s = added t (suc k) x} {u = u} {k = suc k} {i = i} a {b = b} p in record { sheet = c.sheet; number = c.number; left = takes_cons e m c.left; right = c.right }

pub takes_count : {s t : Sheet} {k j : ℕ} {a : List Line} → Takes s k a t j → j ≡ k + length a
takes_count takes_nil = omega arith
takes_count (takes_cons e m p) = let c = takes_count p in omega arith

-- ---- from a text that is accepted

-- the lines of the parts, all taken, and the last rule ended
pub record Whole (s : Sheet) (k : ℕ) (parts : List Bytes) (t : Sheet) : Type 0 where
  pub lines : List Line
  pub spelled : lines_from parts ≡ some lines
  pub last : Sheet
  pub number : ℕ
  pub all : Takes s k lines last number
  pub ends : end_rule last ≡ some t

data Reads (s : Sheet) (k : ℕ) (parts : List Bytes) : Reading → Type 0 where
  no_read : {n i : ℕ} → Reads s k parts (rejected n i)
  reads : {t : Sheet} → Whole s k parts t → Reads s k parts (accepted t)

on_closing : {r : Sheet} (s : Sheet) {i : ℕ} (k : ℕ) {parts : List Bytes} (fs : List Bytes) (f : Sheet → Reading)
    → ((t : Sheet) → closed_by (in_body fs) s ≡ some t → Reads r i parts (f t)) → Reads r i parts (closing s k fs f)
unfolding closing closed_by on_end
on_closing {r} s {i} k {parts} fs f h = by (in_body fs) refl
  where
    ended : (o : Option Sheet) → closed_by (in_body fs) s ≡ o → Reads r i parts (on_end o k f)
    ended none e = no_read
    ended (some t) e = h t e

    by : (b : Bool) → in_body fs ≡ b → Reads r i parts (if b then f s else on_end (end_rule s) k f)
    by true e = h s (ap (λ b. closed_by b s) e)
    by false e = ended (end_rule s) (ap (λ b. closed_by b s) e)

on_steps : {r s : Sheet} {i k : ℕ} {parts : List Bytes} {o : Option Line} {x : Step} (f : Sheet → Reading) → Steps s k o x
    → ((y : Line) → o ≡ some y → Met s y → Reads r i parts (f (added s k y))) → Reads r i parts (on_step x k f)
unfolding on_step
on_steps f not_taken h = no_read
on_steps f (takes y e m) h = h y e m

read_last_lem : (s t : Sheet) (k : ℕ) (l : Bytes) → closed_by (in_body (fields_of l)) s ≡ some t → Reads s k (l ∷ []) (read_last k l t)
unfolding read_last lines_from at_last closed_by fields_of split in_body is bytes
read_last_lem s t k [] e = reads (record { lines = []; spelled = refl; last = s; number = k; all = takes_nil; ends = e })
read_last_lem s t k (b ∷ l) e = no_read

pub lines_more : (l m : Bytes) (ls : List Bytes) (x : Line) (xs : List Line) → line_of (fields_of l) ≡ some x → lines_from (m ∷ ls) ≡ some xs → lines_from (l ∷ m ∷ ls) ≡ some (x ∷ xs)
unfolding lines_from on_some map_some
lines_more l m ls x xs p q = ap (λ o. on_some o (λ y. map_some (λ ys. y ∷ ys) (lines_from (m ∷ ls)))) p ∙ ap (map_some (λ ys. x ∷ ys)) q

read_whole : (s : Sheet) (k : ℕ) (parts : List Bytes) → 1 ≤ length parts → Reads s k parts (read_lines s k parts)
unfolding read_lines step
read_whole s k [] h = absurd (omega arith)
read_whole s k (l ∷ []) h = on_closing s k (fields_of l) (read_last k l) (λ t e. read_last_lem s t k l e)
read_whole s k (l ∷ m ∷ ls) h =
    on_closing s k (fields_of l) _ (λ t e. on_steps (λ u. read_lines u (suc k) (m ∷ ls)) (spelled_steps t (suc k) (line_of (fields_of l))) (λ y q met.
    more t y e q met (read_whole (added t (suc k) y) (suc k) (m ∷ ls) (omega arith))))
  where
    more : {r : Reading} (t : Sheet) (y : Line) → closed_by (in_body (fields_of l)) s ≡ some t → line_of (fields_of l) ≡ some y → Met t y → Reads (added t (suc k) y) (suc k) (m ∷ ls) r → Reads s k (l ∷ m ∷ ls) r
    more t y e q met no_read = no_read
    more t y e q met (reads w) = reads (record {
      lines = y ∷ w.lines;
      spelled = lines_more l m ls y w.lines q w.spelled;
      last = w.last;
      number = w.number;
      all = takes_cons (ap (λ b. closed_by b s) (line_stays (fields_of l) y q) ∙ e) met w.all;
      ends = w.ends;
    })

-- an accepted text
pub text_whole : (text : Bytes) (t : Sheet) → read_text text ≡ accepted t → Whole empty 0 (lines_of text) t
unfolding lines_of
text_whole text t e = of (read_whole empty 0 (lines_of text) ((split_laws 10).some_part text)) (lines_read text t e)
  where
    of : {r : Reading} → Reads empty 0 (lines_of text) r → r ≡ accepted t → Whole empty 0 (lines_of text) t
    of no_read q = absurd (not_accepted q)
    of (reads {t = u} w) q = let z : u ≡ t = cc in subst (Whole empty 0 (lines_of text)) z w

-- ---- to a text that is accepted

closing_step : (s t : Sheet) (k : ℕ) (fs : List Bytes) (f : Sheet → Reading) → closed_by (in_body fs) s ≡ some t → closing s k fs f ≡ f t
unfolding closing closed_by on_end
closing_step s t k fs f e = by (in_body fs) e
  where
    by : (b : Bool) → closed_by b s ≡ some t → (if b then f s else on_end (end_rule s) k f) ≡ f t
    by true e = ap f (some-injective s t e)
    by false e = ap (λ o. on_end o k f) e

-- a line that is taken, and the rest
record Next (s : Sheet) (k : ℕ) (x : Line) (xs : List Line) (u : Sheet) (j : ℕ) : Type 0 where
  after : Sheet
  closes : closed_by (of_body x) s ≡ some after
  met : Met after x
  rest : Takes (added after (suc k) x) (suc k) xs u j

next_of : {s u : Sheet} {k j : ℕ} {x : Line} {xs : List Line} → Takes s k (x ∷ xs) u j → Next s k x xs u j
next_of (takes_cons {t} e m p) = record { after = t; closes = e; met = m; rest = p }

none_left : {s u : Sheet} {k j : ℕ} → Takes s k [] u j → s ≡ u
none_left takes_nil = refl

closed_empty : (s : Sheet) → closed_by (in_body (fields_of [])) s ≡ end_rule s
unfolding closed_by fields_of split in_body is bytes
closed_empty s = refl

last_read : (l : Bytes) (s t u : Sheet) (k j : ℕ) (ls : List Line) → at_last l ≡ some ls → Takes s k ls u j → end_rule u ≡ some t → closing s k (fields_of l) (read_last k l) ≡ accepted t
unfolding at_last read_last
last_read [] s t u k j ls e p q =
    let z = none_left (subst (λ x. Takes s k x u j) (sym (some-injective [] ls e)) p) in
    closing_step s t k (fields_of []) (read_last k []) (closed_empty s ∙ ap end_rule z ∙ q)
last_read (b ∷ l) s t u k j ls e p q = absurd (none-ne-some ls e)

spelled_taken : (s : Sheet) (k : ℕ) (fs : List Bytes) (x : Line) → line_of fs ≡ some x → Met s x → step s k fs ≡ taken (added s k x)
unfolding step step_spelled
spelled_taken s k fs x e m = ap (step_spelled s k) e ∙ met_step s k x m

lines_taken : (parts : List Bytes) (s t u : Sheet) (k j : ℕ) (ls : List Line) → lines_from parts ≡ some ls → Takes s k ls u j → end_rule u ≡ some t → read_lines s k parts ≡ accepted t
unfolding lines_from read_lines on_step
lines_taken [] s t u k j ls e p q = absurd (none-ne-some ls e)
lines_taken (l ∷ []) s t u k j ls e p q = last_read l s t u k j ls e p q
lines_taken (l ∷ m ∷ parts) s t u k j ls e p q =
    let a = on_some_some (line_of (fields_of l)) (λ x. map_some (λ xs. x ∷ xs) (lines_from (m ∷ parts))) e in
    let x = a.0 in
    let b = map_some_some (λ xs. x ∷ xs) (lines_from (m ∷ parts)) a.2 in
    let xs = b.0 in
    let n = next_of (subst (λ y. Takes s k y u j) (sym b.2) p) in
    closing_step s n.after k (fields_of l) (λ t. on_step (step t (suc k) (fields_of l)) (suc k) (λ u. read_lines u (suc k) (m ∷ parts)))
    (ap (λ z. closed_by z s) (sym (line_stays (fields_of l) x a.1)) ∙ n.closes)
    ∙ ap (λ y. on_step y (suc k) (λ u. read_lines u (suc k) (m ∷ parts))) (spelled_taken n.after (suc k) (fields_of l) x a.1 n.met)
    ∙ lines_taken (m ∷ parts) (added n.after (suc k) x) t u (suc k) j xs b.1 n.rest q

-- a text within the byte limit whose lines are all taken
pub taken_read : (text : Bytes) (t u : Sheet) (j : ℕ) (ls : List Line) → length text ≤ 49152 → lines_in text ≡ some ls → Takes empty 0 ls u j → end_rule u ≡ some t → read_text text ≡ accepted t
unfolding lines_in
taken_read text t u j ls h e p q = text_read text t h (lines_taken (lines_of text) empty t u 0 j ls e p q)
