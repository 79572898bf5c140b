-- Laws of the lines and of their bound, rule by rule. Assumes nothing.
use mathlib.Core.Path.{◌≡◌, refl, ap, subst, ◌∙◌}
use mathlib.Core.Bool.{Bool, true, false}
use mathlib.Core.Option.{some, some-injective, none-ne-some}
use mathlib.Core.List.{List, [], ◌∷◌, ◌++◌, append-nil, append_assoc}
use Prim.Native.Nat.{ℕ, zero, suc, ◌+◌, ◌*◌, ◌≤◌, ◌<◌}
use native.Mathlib.Omega.{arith}
use native.Mathlib.Nat.{add-mul}
use native.Mathlib.Decide.{dec_lt}
use lib.ListN.{length, get_elem?, take, length-append}
use lib.Seq.{take-length}
use Rattle.std.specs.Prelude.{if◌then◌else◌}
use Rattle.ocl.specs.Types.{class, Ty}
use Rattle.ocl.specs.Model.{is_a}
use Rattle.ocl.specs.Typing.{typed}
use Rattle.sheet.specs.Text.{Bytes}
use Rattle.sheet.specs.Sheet.{Rule, Sheet, model_of}
use Rattle.sheet.specs.Calls.{typing_of}
use Rattle.sheet.specs.Report.{object_lines, rule_lines}
use Rattle.sheet.specs.Origin.{object_origins, rule_origins}
use Rattle.sheet.specs.Laws.{AllTyped, none_typed, one_typed}
use Rattle.tables.specs.declared.Counts.{Counts}
use Rattle.rules.specs.Accepted.{Accepted}
use Rattle.rules.proofs.Ready.{ready}
use Rattle.report.specs.Bound.{objects_of, line_width, lines_bound, rules_bound}
use Rattle.report.specs.Passes.{TypedRule, verdict_line, object_line, lines_for, line_bound, lines_from}

-- a part of a sum is no more than the sum
sum_before : (f g : ℕ → ℕ) → ((i : ℕ) → f (suc i) ≡ f i + g i) → (o n : ℕ) → o < n → f o + g o ≤ f n
sum_before f g step o zero h = absurd (omega arith)
sum_before f g step o (suc n) h = by (dec_lt o n) (sum_before f g step o n)
  where
    by : Dec (o < n) → (o < n → f o + g o ≤ f n) → f o + g o ≤ f (suc n)
    by (yes k) ih = omega (arith, step n, ih k)
    by (no k) ih = let e : o ≡ n = omega arith in rw e (omega (arith, step n))

-- ---- a rule of an accepted sheet, and its type

pub record RuleOf (st : Counts) (w0 w1 : List ℕ) (r : ℕ) (s : Sheet) (ts : List Ty) : Type 0 where
  pub rule : Rule
  pub type : Ty
  pub is : TypedRule st w0 w1 r s rule type
  pub listed : get_elem? ts r ≡ some type

type_listed : {s : Sheet} {xs : List Rule} {ts : List Ty} → AllTyped s xs ts → (r : ℕ) (x : Rule) → get_elem? xs r ≡ some x
    → (t : Ty) × (((typing_of s x).answer ≡ typed t) × (get_elem? ts r ≡ some t))
type_listed none_typed r x e = absurd (none-ne-some _ e)
type_listed {s} (one_typed {t} a h) zero x e = (t, (subst (λ y. (typing_of s y).answer ≡ typed t) (some-injective _ _ e) a, refl))
type_listed (one_typed a h) (suc r) x e = type_listed h r x e

pub rule_of : {st : Counts} {w0 w1 : List ℕ} {r : ℕ} {s : Sheet} {ts : List Ty} → Accepted st w0 w1 s ts → r < st.rules → RuleOf st w0 w1 r s ts
rule_of {r} a h =
    let x = (ready a.lies).some_rule r h in
    let t = type_listed a.typed r x.0 x.1 in
    record {
      rule = x.0;
      type = t.0;
      is = record { lies = a.lies; defined = a.defined; marks = a.marks; rule = x.1; type = t.1.0 };
      listed = t.1.1;
    }

-- ---- the lines of one rule, and their bound

pub no_lines : (origins : Bool) (s : Sheet) (r : ℕ) (x : Rule) → lines_for origins s r x 0 ≡ []
unfolding lines_for object_lines object_origins
no_lines true s r x = refl
no_lines false s r x = refl

pub lines_object : (origins : Bool) (s : Sheet) (r : ℕ) (x : Rule) (o : ℕ) → lines_for origins s r x (suc o) ≡ lines_for origins s r x o ++ object_line origins r o s x
unfolding lines_for object_lines object_origins object_line verdict_line
lines_object true s r x o = refl
lines_object false s r x o = refl

module _ (origins : Bool) (s : Sheet) (r : ℕ) (x : Rule) where
  -- what comes before object o, and its line, are no more than all
  pub lines_before : (o n : ℕ) → o < n → length (lines_for origins s r x o) + length (object_line origins r o s x) ≤ length (lines_for origins s r x n)
  lines_before = sum_before (λ i. length (lines_for origins s r x i)) (λ i. length (object_line origins r i s x))
      (λ i. ap length (lines_object origins s r x i) ∙ length-append (lines_for origins s r x i) (object_line origins r i s x))

module _ (origins : Bool) (s : Sheet) (x : Rule) (t : Ty) where
  pub bound_object : (o : ℕ) → lines_bound origins s x t (suc o) ≡ lines_bound origins s x t o + line_bound origins o s x t
  unfolding lines_bound line_bound objects_of
  bound_object o = by (is_a (model_of s) o (class x.context))
    where
      n : ℕ
      n = objects_of (model_of s) x.context o

      w : ℕ
      w = line_width origins t

      by : (b : Bool) → (n + (if b then 1 else 0)) * w ≡ n * w + (if b then w else 0)
      by true = add-mul n 1 w ∙ omega arith
      by false = add-mul n 0 w ∙ omega arith

  pub bound_before : (o n : ℕ) → o < n → lines_bound origins s x t o + line_bound origins o s x t ≤ lines_bound origins s x t n
  bound_before = sum_before (lines_bound origins s x t) (λ i. line_bound origins i s x t) bound_object

-- ---- the lines of the first rules, and their bound

-- lines that are numbered through a list of rules, f those of one rule and g those of all
module _ (f : ℕ → Rule → Bytes) (g : ℕ → List Rule → Bytes) (none : (k : ℕ) → g k [] ≡ []) (one : (k : ℕ) (x : Rule) (xs : List Rule) → g k (x ∷ xs) ≡ f k x ++ g (suc k) xs) where
  pub lines_take : (xs : List Rule) (k i : ℕ) (x : Rule) → get_elem? xs i ≡ some x → g k (take (suc i) xs) ≡ g k (take i xs) ++ f (k + i) x
  lines_take [] k i x e = absurd (none-ne-some _ e)
  lines_take (y ∷ xs) k zero x e =
      let q : y ≡ x = some-injective _ _ e in
      let z : k + 0 ≡ k = omega arith in
      one k y [] ∙ rw (none (suc k), none k, append-nil (f k y), q, z)
  lines_take (y ∷ xs) k (suc i) x e =
      let z : suc k + i ≡ k + suc i = omega arith in
      one k y (take (suc i) xs) ∙ rw (lines_take xs (suc k) i x e, one k y (take i xs), z, append_assoc (f k y) (g (suc k) (take i xs)) (f (k + suc i) x))

no_rules : (origins : Bool) (s : Sheet) (k : ℕ) → lines_from origins s k [] ≡ []
unfolding lines_from rule_lines rule_origins
no_rules true s k = refl
no_rules false s k = refl

one_rule : (origins : Bool) (s : Sheet) (k : ℕ) (x : Rule) (xs : List Rule)
    → lines_from origins s k (x ∷ xs) ≡ lines_for origins s k x (length s.objects) ++ lines_from origins s (suc k) xs
unfolding lines_from rule_lines rule_origins lines_for
one_rule true s k x xs = refl
one_rule false s k x xs = refl

module _ (origins : Bool) (s : Sheet) where
  -- of rule r, and of the first r rules
  abbrev of_rule : ℕ → Rule → Bytes
  of_rule r x = lines_for origins s r x (length s.objects)

  abbrev pub lines_to : ℕ → Bytes
  lines_to r = lines_from origins s 0 (take r s.rules)

  pub no_rule_lines : lines_to 0 ≡ []
  no_rule_lines = no_rules origins s 0

  pub lines_rule : (r : ℕ) (x : Rule) → get_elem? s.rules r ≡ some x → lines_to (suc r) ≡ lines_to r ++ of_rule r x
  lines_rule r x e =
      let z : 0 + r ≡ r = omega arith in
      lines_take of_rule (lines_from origins s) (no_rules origins s) (one_rule origins s) s.rules 0 r x e ∙ ap (λ (n : ℕ). lines_to r ++ of_rule n x) z

  pub lines_all : (r : ℕ) → r ≡ length s.rules → lines_to r ≡ lines_from origins s 0 s.rules
  lines_all r e = ap (lines_from origins s 0) (ap (λ (n : ℕ). take n s.rules) e ∙ take-length s.rules)

  -- what comes before rule r, and its lines, are no more than all
  lines_more : (k n : ℕ) (xs : List Rule) → length (lines_from origins s k (take n xs)) ≤ length (lines_from origins s k xs)
  lines_more k zero xs = rw (no_rules origins s k) (omega arith)
  lines_more k (suc n) [] = omega arith
  lines_more k (suc n) (x ∷ xs) =
      rw (one_rule origins s k x (take n xs), one_rule origins s k x xs) (simp length-append (omega (arith, lines_more (suc k) n xs)))

  pub rule_before : (r : ℕ) (x : Rule) → get_elem? s.rules r ≡ some x → length (lines_to r) + length (of_rule r x) ≤ length (lines_from origins s 0 s.rules)
  rule_before r x e =
      let a = ap length (lines_rule r x e) ∙ length-append (lines_to r) (of_rule r x) in
      omega (arith, lines_more 0 (suc r) s.rules)

-- the bound of the first r rules, of the types ts
module _ (origins : Bool) (s : Sheet) (ts : List Ty) where
  abbrev pub bound_to : ℕ → ℕ
  bound_to r = rules_bound origins s (take r s.rules) ts

  pub bound_all : (r : ℕ) → r ≡ length s.rules → bound_to r ≡ rules_bound origins s s.rules ts
  bound_all r e = ap (λ (xs : List Rule). rules_bound origins s xs ts) (ap (λ (n : ℕ). take n s.rules) e ∙ take-length s.rules)

module _ (origins : Bool) (s : Sheet) where
  bound_take : (xs : List Rule) (ts : List Ty) (i : ℕ) (x : Rule) (t : Ty) → get_elem? xs i ≡ some x → get_elem? ts i ≡ some t
      → rules_bound origins s (take (suc i) xs) ts ≡ rules_bound origins s (take i xs) ts + lines_bound origins s x t (length s.objects)
  unfolding rules_bound
  bound_take [] ts i x t e q = absurd (none-ne-some _ e)
  bound_take (y ∷ xs) [] i x t e q = absurd (none-ne-some _ q)
  bound_take (y ∷ xs) (u ∷ ts) zero x t e q = rw (some-injective _ _ e, some-injective _ _ q) (omega arith)
  bound_take (y ∷ xs) (u ∷ ts) (suc i) x t e q = omega (arith, bound_take xs ts i x t e q)

  bound_more : (n : ℕ) (xs : List Rule) (ts : List Ty) → rules_bound origins s (take n xs) ts ≤ rules_bound origins s xs ts
  unfolding rules_bound
  bound_more zero [] ts = omega arith
  bound_more zero (x ∷ xs) ts = omega arith
  bound_more (suc n) [] ts = omega arith
  bound_more (suc n) (x ∷ xs) [] = omega arith
  bound_more (suc n) (x ∷ xs) (t ∷ ts) = omega (arith, bound_more n xs ts)

module _ (origins : Bool) {st : Counts} {w0 w1 : List ℕ} {r : ℕ} {s : Sheet} {ts : List Ty} (y : RuleOf st w0 w1 r s ts) where
  pub bound_rule : bound_to origins s ts (suc r) ≡ bound_to origins s ts r + lines_bound origins s y.rule y.type (length s.objects)
  bound_rule = bound_take origins s s.rules ts r y.rule y.type y.is.rule y.listed

  pub bound_rule_before : bound_to origins s ts r + lines_bound origins s y.rule y.type (length s.objects) ≤ rules_bound origins s s.rules ts
  bound_rule_before = omega (arith, bound_rule, bound_more origins s (suc r) s.rules ts)
