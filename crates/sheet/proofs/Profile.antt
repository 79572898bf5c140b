-- What the call that holds a sheet to the profile answers. Assumes nothing.
use mathlib.Core.Path.{◌≡◌, refl, sym, ap, ◌∙◌, subst}
use mathlib.Core.Logic.{◌≢◌, ◌⊎◌, inl, inr}
use mathlib.Core.Bool.{◌||◌}
use mathlib.Core.Option.{Option, none, some}
use mathlib.Core.List.{List, [], ◌∷◌, ◌++◌, map}
use Prim.Native.Nat.{ℕ, zero, suc, ◌≤◌, min}
use native.Mathlib.Omega.{arith}
use lib.ListN.{length, get_or, get_elem?}
use lib.Dec.{T, eqb, eqb→eq, eqb_refl}
use Rattle.laws.specs.Lists.{member, Each, each_nil, each-cons}
use Rattle.laws.proofs.Tests.{or_l, or_r, or-e, by-if}
use Rattle.laws.proofs.Lists.{member_append}
use Rattle.laws.proofs.Orders.{Three, less, same, over, three}
use Rattle.ocl.specs.Types.{Ty}
use Rattle.ocl.specs.Forms.{Definition}
use Rattle.ocl.specs.Typing.{Answer, typed, refused, type_definition}
use Rattle.ocl.specs.Profile.{outside_rule}
use Rattle.ocl.proofs.Means.{definition_type}
use Rattle.sheet.specs.Text.{Bytes}
use Rattle.sheet.specs.Sheet.{Rule, Sheet, schema_in}
use Rattle.sheet.specs.Reading.{Reading, accepted, rejected, read_text, sheet_in}
use Rattle.sheet.specs.Calls.{Verdict, answer, refusal_at, refusal, short_words, short_output, on_sheet, typing_of, on_type, on_types, on_definitions, on_accepted, type_lines, read_call}
use Rattle.sheet.specs.Soundness.{Lent}
use Rattle.sheet.specs.Laws.{none_typed, one_typed, Defined}
use Rattle.sheet.specs.Profile.{outside_rules, lowest_from, lowest, first_outside, on_profile, profile_of, profile_call}
use Rattle.sheet.specs.ProfileLaws.{outside_on, nodes_outside, OutsideAt, ProfileCallLaw, ProfileLength}
use Rattle.sheet.proofs.Accepted.{Types, AcceptedSheet, accepted_of, on_accepted_lem}
use Rattle.sheet.proofs.Soundness.{sheet_is, read_lent, profile_lent}
use Rattle.sheet.proofs.ReadLength.{accepted_short}

-- ---- a text is accepted, or what would follow does not matter

abbrev Ignored : {A : Type 0} → (A → Verdict) → Type 0
Ignored {A} f = (x y : A) → f x ≡ f y

types_or : (s : Sheet) (xs : List Rule) → Types s xs ⊎ Ignored (on_types s xs)
unfolding on_types on_type
types_or s [] = inl (record { types = []; all = none_typed })
types_or s (x ∷ xs) = by (typing_of s x).answer refl (types_or s xs)
  where
    by : (a : Answer) → (typing_of s x).answer ≡ a → Types s xs ⊎ Ignored (on_types s xs) → Types s (x ∷ xs) ⊎ Ignored (λ (f : List Ty → Verdict). on_type s a (λ t. on_types s xs (λ ts. f (t ∷ ts))))
    by (typed t) q (inl h) = inl (record { types = t ∷ h.types; all = one_typed q h.all })
    by (typed t) q (inr h) = inr (λ f g. h (λ ts. f (t ∷ ts)) (λ ts. g (t ∷ ts)))
    by (refused n p) q h = inr (λ f g. refl)

defined_or : (s : Sheet) (ds : List Definition) → Each (Defined s) ds ⊎ Ignored (on_definitions s ds)
unfolding on_definitions on_type
defined_or s [] = inl each_nil
defined_or s (d ∷ ds) = by (type_definition (schema_in s) d).answer refl (defined_or s ds)
  where
    by : (a : Answer) → (type_definition (schema_in s) d).answer ≡ a → Each (Defined s) ds ⊎ Ignored (on_definitions s ds) → Each (Defined s) (d ∷ ds) ⊎ Ignored (λ (v : Verdict). on_type s a (λ t. on_definitions s ds v))
    by (typed t) q (inl h) = inl (each-cons (record { typed_body = q ∙ ap typed (definition_type (schema_in s) d t q) }) h)
    by (typed t) q (inr h) = inr h
    by (refused n p) q h = inr (λ f g. refl)

accepted_or : (text : Bytes) → AcceptedSheet text ⊎ Ignored (on_accepted text)
unfolding on_accepted on_sheet
accepted_or text = by (read_text text) refl
  where
    typed_or : (s : Sheet) → read_text text ≡ accepted s → Each (Defined s) s.definitions → Types s s.rules ⊎ Ignored (on_types s s.rules)
        → AcceptedSheet text ⊎ Ignored (λ (f : Sheet → List Ty → Verdict). on_definitions s s.definitions (on_types s s.rules (f s)))
    typed_or s q d (inl h) = inl (record { sheet = s; is = q; defined = d; typing = h })
    typed_or s q d (inr h) = inr (λ f g. ap (on_definitions s s.definitions) (h (f s) (g s)))

    sheet_or : (s : Sheet) → read_text text ≡ accepted s → Each (Defined s) s.definitions ⊎ Ignored (on_definitions s s.definitions)
        → AcceptedSheet text ⊎ Ignored (λ (f : Sheet → List Ty → Verdict). on_definitions s s.definitions (on_types s s.rules (f s)))
    sheet_or s q (inl d) = typed_or s q d (types_or s s.rules)
    sheet_or s q (inr h) = inr (λ f g. h (on_types s s.rules (f s)) (on_types s s.rules (g s)))

    by : (x : Reading) → read_text text ≡ x → AcceptedSheet text ⊎ Ignored (λ (f : Sheet → List Ty → Verdict). on_sheet x (λ s. on_definitions s s.definitions (on_types s s.rules (f s))))
    by (accepted s) q = sheet_or s q (defined_or s s.definitions)
    by (rejected n k) q = inr (λ f g. refl)

-- ---- the lowest of some numbers

lowest_under : (n : ℕ) (ns : List ℕ) → lowest_from n ns ≤ n
unfolding lowest_from
lowest_under n [] = omega arith
lowest_under n (m ∷ ns) = let h = lowest_under (min n m) ns in omega arith

lowest_low : (n m : ℕ) (ns : List ℕ) → T (member m ns) → lowest_from n ns ≤ m
unfolding lowest_from member
lowest_low n m [] h = absurd h
lowest_low n m (i ∷ ns) h =
    or-e (eqb m i) (member m ns) h (λ t. let e = eqb→eq m i t in let k = lowest_under (min n i) ns in omega arith) (λ t. lowest_low (min n i) m ns t)

is_member : (n m : ℕ) (ns : List ℕ) → n ≡ m → T (member n (m ∷ ns))
unfolding member
is_member n m ns e = or_l (eqb n m) (member n ns) (subst (λ x. T (eqb n x)) e (eqb_refl n))

lowest_one : (n : ℕ) (ns : List ℕ) → T (member (lowest_from n ns) (n ∷ ns))
unfolding lowest_from
lowest_one n [] = is_member n n [] refl
lowest_one n (m ∷ ns) = by (three n m) (lowest_one (min n m) ns)
  where
    k : ℕ
    k = lowest_from (min n m) ns

    first : min n m ≡ n → T (member k (min n m ∷ ns)) → T (member k (n ∷ m ∷ ns))
    first e h = unfold member in or-e (eqb k (min n m)) (member k ns) h
        (λ t. is_member k n (m ∷ ns) (eqb→eq k (min n m) t ∙ e)) (λ t. or_r (eqb k n) (member k (m ∷ ns)) (or_r (eqb k m) (member k ns) t))

    second : min n m ≡ m → T (member k (min n m ∷ ns)) → T (member k (n ∷ m ∷ ns))
    second e h = unfold member in or-e (eqb k (min n m)) (member k ns) h
        (λ t. or_r (eqb k n) (member k (m ∷ ns)) (is_member k m ns (eqb→eq k (min n m) t ∙ e))) (λ t. or_r (eqb k n) (member k (m ∷ ns)) (or_r (eqb k m) (member k ns) t))

    by : Three n m → T (member k (min n m ∷ ns)) → T (member k (n ∷ m ∷ ns))
    by (less h) t = first (omega arith) t
    by (same e) t = first (omega arith) t
    by (over h) t = second (omega arith) t

-- it is one of them, and none is lower
record Lowest (ns : List ℕ) : Type 0 where
  number : ℕ
  is : lowest ns ≡ some number
  one : T (member number ns)
  low : (m : ℕ) → T (member m ns) → number ≤ m

lowest_of : (ns : List ℕ) (m : ℕ) → T (member m ns) → Lowest ns
unfolding lowest
lowest_of [] m h = unfold member in absurd h
lowest_of (n ∷ ns) m h = record {
  number = lowest_from n ns;
  is = refl;
  one = lowest_one n ns;
  low = λ i t. unfold member in or-e (eqb i n) (member i ns) t (λ e. let d = eqb→eq i n e in let k = lowest_under n ns in omega arith) (λ r. lowest_low n i ns r);
}

member_map : (f : ℕ → ℕ) (q : ℕ) (ns : List ℕ) → T (member q ns) → T (member (f q) (map f ns))
unfolding member
member_map f q [] h = h
member_map f q (n ∷ ns) h =
    or-e (eqb q n) (member q ns) h (λ t. is_member (f q) (f n) (map f ns) (ap f (eqb→eq q n t))) (λ t. or_r (eqb (f q) (f n)) (member (f q) (map f ns)) (member_map f q ns t))

map_member : (f : ℕ → ℕ) (k : ℕ) (ns : List ℕ) → T (member k (map f ns)) → (q : ℕ) × T (member q ns) × (f q ≡ k)
unfolding member
map_member f k [] h = absurd h
map_member f k (n ∷ ns) h =
    or-e (eqb k (f n)) (member k (map f ns)) h (λ t. (n, is_member n n ns refl, sym (eqb→eq k (f n) t)))
    (λ t. let r = map_member f k ns t in (r.0, or_r (eqb r.0 n) (member r.0 ns) r.1, r.2))

-- ---- the nodes of all rules

module _ (s : Sheet) where
  -- those of rule r, if there is one
  abbrev nodes : List Rule → ℕ → List ℕ
  nodes xs r = outside_on s (get_elem? xs r)

  none_outside : (xs : List Rule) → ((r : ℕ) → nodes xs r ≡ []) → outside_rules (schema_in s) xs ≡ []
  unfolding outside_rules outside_on
  none_outside [] h = refl
  none_outside (x ∷ xs) h = ap (λ l. l ++ outside_rules (schema_in s) xs) (h 0) ∙ none_outside xs (λ r. h (suc r))

  in_rules : (xs : List Rule) (r q : ℕ) → T (member q (nodes xs r)) → T (member q (outside_rules (schema_in s) xs))
  unfolding outside_rules outside_on member
  in_rules [] r q h = absurd h
  in_rules (x ∷ xs) zero q h = let l = outside_rule (schema_in s) x.context x.body in subst T (sym (member_append q l (outside_rules (schema_in s) xs))) (or_l (member q l) _ h)
  in_rules (x ∷ xs) (suc r) q h =
      let l = outside_rule (schema_in s) x.context x.body in subst T (sym (member_append q l (outside_rules (schema_in s) xs))) (or_r (member q l) _ (in_rules xs r q h))

  of_rules : (xs : List Rule) (q : ℕ) → T (member q (outside_rules (schema_in s) xs)) → (r : ℕ) × T (member q (nodes xs r))
  unfolding outside_rules outside_on member
  of_rules [] q h = absurd h
  of_rules (x ∷ xs) q h =
      let l = outside_rule (schema_in s) x.context x.body in
      or-e (member q l) (member q (outside_rules (schema_in s) xs)) (subst T (member_append q l (outside_rules (schema_in s) xs)) h) (λ t. (0, t)) (λ t. let r = of_rules xs q t in (suc r.0, r.1))

  within_first : ((r : ℕ) → nodes s.rules r ≡ []) → first_outside s ≡ none
  unfolding first_outside lowest
  within_first h = ap (λ l. lowest (map (λ p. get_or s.lines p 0) l)) (none_outside s.rules h)

  -- the lowest line of a node outside, and that node
  record First (q : ℕ) : Type 0 where
    line : ℕ
    is : first_outside s ≡ some line
    low : line ≤ get_or s.lines q 0
    rule : ℕ
    node : ℕ
    outside : T (member node (nodes s.rules rule))
    at : get_or s.lines node 0 ≡ line

  first_outside_lem : (r q : ℕ) → T (member q (nodes s.rules r)) → First q
  unfolding first_outside
  first_outside_lem r q h =
      let f : ℕ → ℕ = λ p. get_or s.lines p 0 in
      let ns = outside_rules (schema_in s) s.rules in
      let m = member_map f q ns (in_rules s.rules r q h) in
      let l = lowest_of (map f ns) (f q) m in
      let a = map_member f l.number ns l.one in
      let b = of_rules s.rules a.0 a.1 in
      record { line = l.number; is = l.is; low = l.low (f q) m; rule = b.0; node = a.0; outside = b.1; at = a.2 }

-- ---- the call

module _ (text : Bytes) (w0 w1 w2 : List ℕ) (out : Bytes) (l : Lent w0 w1 w2 out) where
  -- what follows for a sheet and its types
  abbrev reading : Sheet → List Ty → Verdict
  reading s ts = answer (type_lines ts)

  abbrev profiling : Sheet → List Ty → Verdict
  profiling s ts = on_profile (first_outside s) (answer (type_lines ts))

  read_as : (a : AcceptedSheet text) → read_call text w0 w1 w2 out ≡ answer (type_lines a.typing.types)
  read_as a = read_lent text w0 w1 w2 out l ∙ on_accepted_lem text a reading

  profile_as : (a : AcceptedSheet text) → profile_call text w0 w1 w2 out ≡ on_profile (first_outside a.sheet) (answer (type_lines a.typing.types))
  profile_as a = profile_lent text w0 w1 w2 out l ∙ on_accepted_lem text a profiling

  not_accepted : Ignored (on_accepted text) → profile_call text w0 w1 w2 out ≡ read_call text w0 w1 w2 out
  not_accepted h = profile_lent text w0 w1 w2 out l ∙ h profiling reading ∙ sym (read_lent text w0 w1 w2 out l)

  read_first : AcceptedSheet text ⊎ Ignored (on_accepted text) → (read_call text w0 w1 w2 out).number ≢ 0 → profile_call text w0 w1 w2 out ≡ read_call text w0 w1 w2 out
  unfolding answer
  read_first (inl a) n = absurd (n (ap (λ v. v.number) (read_as a)))
  read_first (inr h) n = not_accepted h

  within : AcceptedSheet text ⊎ Ignored (on_accepted text) → ((r : ℕ) → nodes_outside text r ≡ []) → profile_call text w0 w1 w2 out ≡ read_call text w0 w1 w2 out
  unfolding on_profile nodes_outside
  within (inl a) h =
      profile_as a ∙ ap (λ o. on_profile o (answer (type_lines a.typing.types))) (within_first a.sheet (subst (λ s. (r : ℕ) → nodes s s.rules r ≡ []) (sheet_is text a.sheet a.is) h)) ∙ sym (read_as a)
  within (inr h) k = not_accepted h

  outside : (read_call text w0 w1 w2 out).number ≡ 0 → (r q : ℕ) → T (member q (nodes_outside text r))
      → (profile_call text w0 w1 w2 out ≡ refusal_at 22 (profile_call text w0 w1 w2 out).place)
      × OutsideAt text (profile_call text w0 w1 w2 out).place
      × ((profile_call text w0 w1 w2 out).place ≤ get_or (sheet_in text).lines q 0)
  unfolding on_profile refusal_at nodes_outside
  outside n r q h =
      let a = accepted_of text reading (rw (read_lent text w0 w1 w2 out l) at n) in
      let z = sheet_is text a.sheet a.is in
      let f = first_outside_lem (sheet_in text) r q h in
      let e : profile_call text w0 w1 w2 out ≡ refusal_at 22 f.line =
      profile_as a ∙ ap (λ s. on_profile (first_outside s) (answer (type_lines a.typing.types))) (sym z) ∙ ap (λ o. on_profile o (answer (type_lines a.typing.types))) f.is in
      let k : (profile_call text w0 w1 w2 out).place ≡ f.line = ap (λ v. v.place) e in
      (e ∙ ap (refusal_at 22) (sym k), record { rule = f.rule; node = f.node; outside = f.outside; line = f.at ∙ sym k }, subst (λ i. i ≤ get_or (sheet_in text).lines q 0) (sym k) f.low)

  answered : (profile_call text w0 w1 w2 out).number ≡ 0 → (r : ℕ) → nodes_outside text r ≡ []
  unfolding answer refusal_at
  answered n r =
      let a = accepted_of text profiling (rw (profile_lent text w0 w1 w2 out l) at n) in
      empty_by (nodes_outside text r) (λ q h.
      let e = ap (λ v. v.number) (outside (ap (λ v. v.number) (read_as a)) r q h).0 in omega arith)
    where
      empty_by : (ns : List ℕ) → ((q : ℕ) → T (member q ns) → ⊥) → ns ≡ []
      empty_by [] h = refl
      empty_by (q ∷ ns) h = absurd (h q (is_member q q ns refl))

pub profile_call_lem : ProfileCallLaw
profile_call_lem text w0 w1 w2 out l = record {
  read_first = read_first text w0 w1 w2 out l (accepted_or text);
  within = within text w0 w1 w2 out l (accepted_or text);
  outside = outside text w0 w1 w2 out l;
  answered = answered text w0 w1 w2 out l;
}

-- ---- what it writes

pub profile_length : ProfileLength
unfolding profile_call profile_of refusal refusal_at
profile_length text w0 w1 w2 out =
    by-if (λ (v : Verdict). length v.output ≤ 896) (short_words w0 w1 w2 || short_output out) (refusal 1) _ (λ t. omega arith)
    (λ t. accepted_short text (λ s ts. on_profile (first_outside s) (answer (type_lines ts))) (λ s ts. by (first_outside s) ts))
  where
    by : (o : Option ℕ) (ts : List Ty) → length (on_profile o (answer (type_lines ts))).output ≤ length (type_lines ts)
    by none ts = unfold on_profile answer in omega arith
    by (some k) ts = unfold on_profile in omega arith
