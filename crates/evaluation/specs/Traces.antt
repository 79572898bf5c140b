-- An outcome that says where undefined arose, and the code's answer for it: a value's cells lie at sp, and the place of undefined is one
-- word. What is evaluated, over a model and marks, to such an outcome.
use Rattle.std.specs.Prelude.{◌≡◌, List, ℕ, ◌+◌, ◌*◌, ◌/◌, ◌%◌, ◌≤◌, ◌<◌, eqb}
use Rattle.std.specs.Prelude.{if◌then◌else◌}
use Rattle.memory.specs.Map as memory
use Rattle.ocl.specs.Values.{Value, largest}
use Rattle.ocl.specs.Environment.{Env}
use Rattle.ocl.specs.Trace.{Traced, value_t, undefined_t, stuck_t, stop_t, Trace}
use Rattle.sheet.specs.Sizes.{most_nodes}
use Rattle.outcomes.specs.declared.Ended.{Ended}
use Rattle.outcomes.specs.declared.Ended.TheVariants as ended
use Rattle.outcomes.specs.Answers.{Lies, Under}
use Rattle.operations.specs.Runs.{World, Rel}
use Rattle.evaluation.specs.declared.Traced.{Traced as Answer}
use Rattle.evaluation.specs.declared.Traced.TheVariants as traced

-- ---- a place: a node and the step at which it began, as one word

unfoldable pub place_of : ℕ → ℕ → ℕ
place_of p k = p + memory.place_step * k

pub record Names (place p k : ℕ) : Type 0 where
  pub node : place % memory.place_step ≡ p
  pub step : place / memory.place_step ≡ k

-- whatever the words stand for, a place names a node of the table and a step from 1 on, and has room in 30 bits
pub record Placed (place : ℕ) : Type 0 where
  pub node : place % memory.place_step < most_nodes
  pub step : memory.place_step ≤ place
  pub room : place < 1073741824

-- 0 is no place
pub data Perhaps : ℕ → Type 0 where
  no_place : Perhaps 0
  a_place : {place : ℕ} → Placed place → Perhaps place

-- of two places the first, if there is one
unfoldable pub earlier_of : ℕ → ℕ → ℕ
earlier_of a b = if eqb a 0 then b else a

-- ---- answers

pub data EndsT (sp : ℕ) (A : List ℕ) : Traced → Answer → Type 0 where
  ends_value : {v : Value} {len s : ℕ} → Lies v sp len A → len ≤ largest → EndsT sp A (value_t v s) (traced.Value len s)
  ends_undefined : {s p k place : ℕ} → Names place p k → EndsT sp A (undefined_t s p k) (traced.Undef s place)
  ends_stuck : EndsT sp A stuck_t traced.Stuck
  ends_stop : {c s : ℕ} → EndsT sp A (stop_t c s) (traced.Stop c s)

-- the words were B and are A
pub record RanT (o : Traced) (sp : ℕ) (B A : List ℕ) (r : Answer) : Type 0 where
  pub kept : Under sp A B
  pub ends : EndsT sp A o r

-- whatever the words stand for, an answer has between 1 and 128 cells, or a place
abbrev pub SmallTraced : Answer → Type 0
SmallTraced (traced.Value len s) = (1 ≤ len) × (len ≤ largest)
SmallTraced (traced.Undef s place) = Placed place
SmallTraced traced.Stuck = Unit {0}
SmallTraced (traced.Stop c s) = Unit {0}

-- what an operation answered, its undefined with a place
abbrev pub arisen : Ended → ℕ → Answer
arisen (ended.Value len s) place = traced.Value len s
arisen (ended.Undef s) place = traced.Undef s place
arisen ended.Stuck place = traced.Stuck
arisen (ended.Stop c s) place = traced.Stop c s

-- an answer without the place
abbrev pub without_place : Answer → Ended
without_place (traced.Value len s) = ended.Value len s
without_place (traced.Undef s place) = ended.Undef s
without_place traced.Stuck = ended.Stuck
without_place (traced.Stop c s) = ended.Stop c s

-- ---- an answer as one word

-- two bits for the variant, eight for the length or the number, twenty for the steps, thirty for the place
unfoldable pub word_of : ℕ → ℕ → ℕ → ℕ → ℕ
word_of variant small s place = variant + 4 * (small % 256) + 1024 * (s % 1048576) + 1073741824 * (place % 1073741824)

unfoldable pub answer_of : ℕ → ℕ → ℕ → ℕ → Answer
answer_of variant small s place =
    if eqb variant 0 then traced.Value small s
    else if eqb variant 1 then traced.Undef s place
    else if eqb variant 2 then traced.Stuck
    else traced.Stop small s

unfoldable pub answer_in : ℕ → Answer
answer_in w = answer_of (w % 4) (w / 4 % 256) (w / 1024 % 1048576) (w / 1073741824)

-- what the word has room for
abbrev pub Slim : Answer → Type 0
Slim (traced.Value len s) = (len < 256) × (s < 1048576)
Slim (traced.Undef s place) = (s < 1048576) × (place < 1073741824)
Slim traced.Stuck = Unit {0}
Slim (traced.Stop c s) = (c < 256) × (s < 1048576)

-- every answer's word; one without room is cut to the bits there are
unfoldable pub word_for : Answer → ℕ
word_for (traced.Value len s) = word_of 0 len s 0
word_for (traced.Undef s place) = word_of 1 0 s place
word_for traced.Stuck = 2
word_for (traced.Stop c s) = word_of 3 c s 0

pub record Packs (e : Answer) (w : ℕ) : Type 0 where
  pub is : w ≡ word_for e
  pub small : SmallTraced e → SmallTraced (answer_in w)
  pub same : Slim e → answer_in w ≡ e

-- ---- what is evaluated

abbrev pub MeaningT : Type 0
MeaningT = World → Trace

pub record EvalsT (Ok : World → Type 0) (f : MeaningT) (env : List ℕ) (sp s : ℕ) (B A : List ℕ) (r : Answer) : Type 0 where
  pub small : SmallTraced r
  pub ran : (w : World) → Ok w → (ρ : Env Value) → Rel env B sp ρ → RanT (f w ρ s) sp B A r
