-- An outcome by the answer that stands for it, and lines in the parts in which they are written. Assumes nothing.
use Prim.Native.Nat.{ℕ, ◌+◌, ◌/◌, ◌%◌, ◌≤◌, ◌<◌}
use mathlib.Core.Path.{◌≡◌, refl, ap, ◌∙◌}
use mathlib.Core.List.{List, [], ◌∷◌, ◌++◌, append_assoc}
use native.Mathlib.Omega.{arith}
use lib.ListN.{length, take, length-append, length-take, length-drop}
use lib.Seq.{slice}
use Rattle.ocl.specs.Values.{Value}
use Rattle.ocl.specs.Operations.{Outcome, value, undefined, stuck, stop, steps_of}
use Rattle.sheet.specs.Text.{Bytes, bytes, spell_number}
use Rattle.sheet.specs.Spelling.{spell_value}
use Rattle.sheet.specs.Report.{spell_outcome, report_line}
use Rattle.sheet.specs.Origin.{place_line}
use Rattle.text.specs.Written.{Puts}
use Rattle.text.proofs.WrittenLaws.{puts_nothing}
use Rattle.values.specs.Cells.{enc, Fits}
use Rattle.values.proofs.Encoding.{some_cells, size_law}
use Rattle.spelling.specs.Meanings.{ValueFits}
use Rattle.spelling.proofs.PutLaws.{puts_behind}
use Rattle.nodes.specs.Nodes.{word}
use Rattle.outcomes.specs.declared.Ended.{Ended}
use Rattle.outcomes.specs.declared.Ended.TheVariants as ended
use Rattle.outcomes.specs.Answers.{Lies, Ends, ends_value, ends_undefined, ends_stuck, ends_stop}
use Rattle.evaluation.specs.declared.Traced.{Traced}
use Rattle.evaluation.specs.declared.Traced.TheVariants as traced
use Rattle.evaluation.specs.Traces.{SmallTraced}
use Rattle.report.specs.Lines.{OutcomeFits, LineFits, PlaceFits, origin_by, OriginFits}

-- ---- an outcome

-- a value that lies in the words lies within them
lies_within : {v : Value} {p len : ℕ} {S : List ℕ} → Lies v p len S → p + len ≤ length S
lies_within {v} {p} {len} {S} l =
    omega (arith, ap length l.cells, length-drop p (take (p + len) S), length-take (p + len) S, some_cells v, size_law v, l.long)

-- what an outcome is, by its answer
pub record IsValue (S : List ℕ) (len s : ℕ) (x : Outcome) : Type 0 where
  pub v : Value
  pub is : x ≡ value v s
  pub lies : Lies v 1 len S

abbrev pub Is : List ℕ → Ended → Outcome → Type 0
Is S (ended.Value len s) x = IsValue S len s x
Is S (ended.Undef s) x = x ≡ undefined s
Is S ended.Stuck x = x ≡ stuck
Is S (ended.Stop c s) x = x ≡ stop c s

is : {S : List ℕ} {x : Outcome} {e : Ended} → Ends 1 S x e → Is S e x
is (ends_value {v} l h) = record { v = v; is = refl; lies = l }
is ends_undefined = refl
is ends_stuck = refl
is ends_stop = refl

pub outcome_is : {S : List ℕ} {x : Outcome} {e f : Ended} → e ≡ f → Ends 1 S x e → Is S f x
outcome_is h n = rw h at (is n)

module _ {S : List ℕ} {x : Outcome} {e : Ended} (n : Ends 1 S x e) where
  pub undefined_spelled : {s : ℕ} → e ≡ ended.Undef s → spell_outcome x ≡ 117 ∷ []
  unfolding spell_outcome bytes
  undefined_spelled h = ap spell_outcome (outcome_is h n)

  pub stuck_spelled : e ≡ ended.Stuck → spell_outcome x ≡ 33 ∷ 49 ∷ 48 ∷ 48 ∷ []
  unfolding spell_outcome bytes
  stuck_spelled h = ap spell_outcome (outcome_is h n)

  pub stop_spelled : {c s : ℕ} → e ≡ ended.Stop c s → spell_outcome x ≡ 33 ∷ spell_number c
  unfolding spell_outcome
  stop_spelled h = ap spell_outcome (outcome_is h n)

module _ {at len s : ℕ} {S : List ℕ} {e : Ended} (h : e ≡ ended.Value len s) where
  pub value_fits : {room : ℕ} → OutcomeFits at S e room → ValueFits at S 1 (1 + len) room
  unfolding spell_outcome
  value_fits {room} f =
      let i = outcome_is h f.ends in
      record {
        v = i.v;
        fits = i.lies.fits;
        order = omega arith;
        within = lies_within i.lies;
        lies = i.lies.cells;
        enough = omega (arith, f.enough, ap (λ (x : Outcome). length (spell_outcome x)) i.is);
      }

  pub puts_value : {a b : Bytes} {r : ℕ} → ((v : Value) → Fits v → slice 1 (1 + len) S ≡ enc v → Puts at (spell_value v) a b r)
      → (x : Outcome) → Ends 1 S x e → Puts at (spell_outcome x) a b r
  unfolding spell_outcome
  puts_value put x n = let i = outcome_is h n in rw i.is (put i.v i.lies.fits i.lies.cells)

-- ---- a line

-- a number and a blank; a blank, a number and a line feed
abbrev column : ℕ → Bytes
column n = spell_number n ++ (32 ∷ [])

abbrev ending : ℕ → Bytes
ending n = 32 ∷ spell_number n ++ (10 ∷ [])

-- a line in the parts in which it is written
abbrev parted : ℕ → ℕ → Bytes → ℕ → Bytes
parted r o b n = column r ++ (column o ++ (b ++ ending n))

parted_length : (r o : ℕ) (b : Bytes) (n : ℕ) → length (parted r o b n) ≡ length (spell_number r) + length (spell_number o) + length b + length (spell_number n) + 4
parted_length r o b n = simp length-append (omega arith)

line_parts : (r o : ℕ) (x : Outcome) → report_line r o x ≡ parted r o (spell_outcome x) (steps_of x)
unfolding report_line bytes
line_parts r o x = simp append_assoc

place_parts : (r o k j : ℕ) → place_line r o k j ≡ parted r o (spell_number k) j
unfolding place_line bytes
place_parts r o k j = simp append_assoc

pub place_length : (r o k j : ℕ)
    → length (place_line r o k j) ≡ length (spell_number r) + length (spell_number o) + length (spell_number k) + length (spell_number j) + 4
place_length r o k j = ap length (place_parts r o k j) ∙ parted_length r o (spell_number k) j

-- room for each part
record PartsFit (at rule object : ℕ) (mid : Bytes) (n room : ℕ) : Type 0 where
  enough : at + length (parted rule object mid n) ≤ room

module _ {at rule object n room : ℕ} {mid : Bytes} (f : PartsFit at rule object mid n room) where
  first_room : at + length (spell_number rule) + 1 ≤ room
  first_room = omega (arith, f.enough, parted_length rule object mid n)

  module _ {a b : Bytes} {second : ℕ} (p : Puts at (column rule) a b second) where
    second_at : second ≡ at + length (spell_number rule) + 1
    second_at = p.end ∙ simp length-append (omega arith)

    second_room : second + length (spell_number object) + 1 ≤ room
    second_room = omega (arith, f.enough, parted_length rule object mid n, second_at)

    module _ {c : Bytes} {third : ℕ} (q : Puts second (column object) b c third) where
      third_at : third ≡ second + length (spell_number object) + 1
      third_at = q.end ∙ simp length-append (omega arith)

      third_room : third + length mid ≤ room
      third_room = omega (arith, f.enough, parted_length rule object mid n, second_at, third_at)

      last_room : {d : Bytes} {last : ℕ} → Puts third mid c d last → last + length (spell_number n) + 2 ≤ room
      last_room m = omega (arith, f.enough, parted_length rule object mid n, second_at, third_at, m.end)

-- each part behind the one before it
puts_parted : (rule object n : ℕ) {at second third last r : ℕ} {mid a b c d g : Bytes} → Puts at (column rule) a b second → length b ≡ length a
    → Puts second (column object) b c third → length c ≡ length b → Puts third mid c d last → length d ≡ length c → Puts last (ending n) d g r
    → length g ≡ length d → Puts at (parted rule object mid n) a g r
puts_parted rule object n p kb q kc m kd e kg =
    let tail = puts_behind m kd e kg (omega arith) in
    let more = puts_behind q kc tail (kg ∙ kd) (simp length-append (omega arith)) in
    puts_behind p kb more (kg ∙ kd ∙ kc) (simp length-append (omega arith))

-- ---- a line of the report

module _ {at rule object room : ℕ} {S : List ℕ} {e : Ended} (f : LineFits at rule object S e room) where
  fits_parted : PartsFit at rule object (spell_outcome f.outcome) (steps_of f.outcome) room
  fits_parted = record { enough = rw (line_parts rule object f.outcome) at f.enough }

  pub rule_room : at + length (spell_number rule) + 1 ≤ room
  rule_room = first_room fits_parted

  module _ {a b : Bytes} {second : ℕ} (p : Puts at (column rule) a b second) where
    pub object_room : second + length (spell_number object) + 1 ≤ room
    object_room = second_room fits_parted p

    module _ {c : Bytes} {third : ℕ} (q : Puts second (column object) b c third) where
      pub outcome_fits : length c ≡ room → OutcomeFits third S e (length c)
      outcome_fits same = record { outcome = f.outcome; ends = f.ends; enough = omega (arith, third_room fits_parted p q) }

      pub steps_room : {d : Bytes} {last n : ℕ} → ((x : Outcome) → Ends 1 S x e → Puts third (spell_outcome x) c d last)
          → ((A : List ℕ) (x : Outcome) → Ends 1 A x e → n ≡ steps_of x) → last + length (spell_number n) + 2 ≤ room
      steps_room put steps =
          omega (arith, last_room fits_parted p q (put f.outcome f.ends), ap (λ (k : ℕ). length (spell_number k)) (steps S f.outcome f.ends))

      pub puts_line : {d g : Bytes} {last n r : ℕ} → length b ≡ length a → length c ≡ length b
          → ((x : Outcome) → Ends 1 S x e → Puts third (spell_outcome x) c d last) → length d ≡ length c
          → ((A : List ℕ) (x : Outcome) → Ends 1 A x e → n ≡ steps_of x) → Puts last (ending n) d g r → length g ≡ length d
          → (x : Outcome) → Ends 1 S x e → Puts at (report_line rule object x) a g r
      puts_line kb kc put kd steps s kg x i = rw (line_parts rule object x) (puts_parted rule object (steps_of x) p kb q kc (put x i) kd (rw (steps S x i) at s) kg)

-- ---- a line that says where undefined came from

module _ {at rule object line step room : ℕ} (f : PlaceFits at rule object line step room) where
  place_parted : PartsFit at rule object (spell_number line) step room
  place_parted = record { enough = rw (place_parts rule object line step) at f.enough }

  pub place_rule_room : at + length (spell_number rule) + 1 ≤ room
  place_rule_room = first_room place_parted

  module _ {a b : Bytes} {second : ℕ} (p : Puts at (column rule) a b second) where
    pub place_object_room : second + length (spell_number object) + 1 ≤ room
    place_object_room = second_room place_parted p

    module _ {c : Bytes} {third : ℕ} (q : Puts second (column object) b c third) where
      pub place_line_room : third + length (spell_number line) ≤ room
      place_line_room = third_room place_parted p q

      pub place_step_room : {d : Bytes} {last : ℕ} → Puts third (spell_number line) c d last → last + length (spell_number step) + 2 ≤ room
      place_step_room m = last_room place_parted p q m

      pub puts_place : {d g : Bytes} {last r : ℕ} → length b ≡ length a → length c ≡ length b → Puts third (spell_number line) c d last → length d ≡ length c
          → Puts last (ending step) d g r → length g ≡ length d → Puts at (place_line rule object line step) a g r
      puts_place kb kc m kd e kg = rw (place_parts rule object line step) (puts_parted rule object step p kb q kc m kd e kg)

-- by the answer: a place of undefined, or nothing
module _ {t : Traced} where
  pub origin_node : {n place : ℕ} → t ≡ traced.Undef n place → SmallTraced t → place % 1024 < 768
  origin_node e k = let p = rw e at k in p.node

  pub origin_place_fits : {at rule object n place line step room : ℕ} {w1 : List ℕ} → t ≡ traced.Undef n place → OriginFits at rule object w1 t room
      → line ≡ word w1 (place % 1024) 7 → step ≡ place / 1024 → PlaceFits at rule object line step room
  unfolding origin_by
  origin_place_fits e f q p = record { enough = rw (q, p) (let h = rw e at f in h.enough) }

  pub puts_origin_place : {at n place line step r : ℕ} {a b : Bytes} (rule object : ℕ) (w1 : List ℕ) → t ≡ traced.Undef n place
      → line ≡ word w1 (place % 1024) 7 → step ≡ place / 1024 → Puts at (place_line rule object line step) a b r → Puts at (origin_by rule object w1 t) a b r
  unfolding origin_by
  puts_origin_place rule object w1 e q k p = rw e (rw (q, k) at p)

pub no_origin_value : {t : Traced} {len n : ℕ} (at rule object : ℕ) (w1 : List ℕ) (out : Bytes) → t ≡ traced.Value len n → Puts at (origin_by rule object w1 t) out out at
unfolding origin_by
no_origin_value at rule object w1 out e = rw e (puts_nothing at out)

pub no_origin_stuck : {t : Traced} (at rule object : ℕ) (w1 : List ℕ) (out : Bytes) → t ≡ traced.Stuck → Puts at (origin_by rule object w1 t) out out at
unfolding origin_by
no_origin_stuck at rule object w1 out e = rw e (puts_nothing at out)

pub no_origin_stop : {t : Traced} {c n : ℕ} (at rule object : ℕ) (w1 : List ℕ) (out : Bytes) → t ≡ traced.Stop c n → Puts at (origin_by rule object w1 t) out out at
unfolding origin_by
no_origin_stop at rule object w1 out e = rw e (puts_nothing at out)
