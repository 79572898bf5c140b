-- The definition that a node calls: the code's tests by a node's words, what they say of its form, and what the tables hold of the
-- definition. Assumes nothing.
use mathlib.Core.Path.{◌≡◌, refl, sym, ap, ◌∙◌}
use mathlib.Core.Bool.{Bool, true, false, ◌&&◌, and-false}
use mathlib.Core.List.{List, [], ◌∷◌}
use Prim.Native.Nat.{ℕ, suc, ◌+◌, ◌/◌, ◌<◌, ◌≤◌, min}
use native.Mathlib.Omega.{arith}
use native.Mathlib.Decide.{dec_lt}
use borrow.Author.Tests.{eq-eqb, ne_eqb, lt-ltb, le-ltb, ltb-true, le-leb, lt-leb, eqb-true}
use lib.Dec.{eqb, leb, ltb}
use lib.ListN.{length, get_or, take, drop}
use Rattle.std.specs.Prelude.{if◌then◌else◌}
use Rattle.laws.proofs.Cases.{zero_least}
use Rattle.memory.specs.Map as memory
use Rattle.ocl.specs.Types.{Kind, set, sequence, bag}
use Rattle.ocl.specs.Forms.{Access, of_object, of_members, Leaf, truth, undef, number, self, var, all, Unary, negation, size_of, convert, cast_to, Definition, levels}
use Rattle.sheet.specs.Lines.{Shape, leaf, unary, binary, connective, is_undef, conditional, let_in, attribute, call, quantified, iterate, assemble}
use Rattle.sheet.specs.Sheet.{Sheet, operands_of, definition_of}
use Rattle.sheet.specs.Limits.{leaf_held, unary_held, held_by}
use Rattle.sheet.specs.Refusals.{call_below}
use Rattle.types.specs.Word.{type_in}
use Rattle.nodes.specs.Nodes.{Called, CallSaid, class_in, tree_at, unary_words, access_code, assemble_code, shape_words}
use Rattle.nodes.proofs.Keep.{tree_depth}
use Rattle.tables.specs.Layout.{HoldsDefinitions}
use Rattle.tables.proofs.Tables.{entry_of, entry_by, entry_each}
use Rattle.shapes.specs.Forms.{operands_at}
use Rattle.shapes.specs.Calls.{called_by, by_number}
use Rattle.trees.specs.Calls.{is_call, calls_in, called_at, resolved_in, body_depth}
use Rattle.trees.proofs.ShapeLaws.{body_levels}

-- ---- what the code's tests answer

less_leb : (a n : ℕ) → ltb a n ≡ leb (suc a) n
less_leb a n = go (dec_lt a n)
  where
    go : Dec (a < n) → ltb a n ≡ leb (suc a) n
    go (yes l) = lt-ltb a n l ∙ sym (le-leb (suc a) n (omega arith))
    go (no l) = le-ltb a n (omega arith) ∙ sym (lt-leb (suc a) n (omega arith))

module _ (words : List ℕ) (count : ℕ) where
  pub call_count : (count ≡ 1 → ⊥) → false ≡ is_call words count
  unfolding is_call
  call_count h = rw (ne_eqb count 1 h)

  pub call_code : count ≡ 1 → eqb (get_or words 0 0) 36 ≡ is_call words count
  unfolding is_call
  call_code h = rw (eq-eqb count 1 h)

  module _ {b : Bool} (told : b ≡ is_call words count) where
    pub below_none : (m : ℕ) → b ≡ false → true ≡ leb (calls_in words count) m
    unfolding calls_in
    below_none m h = rw (← told, h) (sym (zero_least m))

    pub below_call : (m : ℕ) → b ≡ true → ltb (get_or words 2 0) m ≡ leb (calls_in words count) m
    unfolding calls_in
    below_call m h = rw (← told, h) (less_leb (get_or words 2 0) m)

    pub resolved_none : (w0 : List ℕ) → b ≡ false → words ≡ resolved_in w0 words count
    unfolding resolved_in
    resolved_none w0 h = rw (← told, h)

    pub called_low : b ≡ true → calls_in words count ≤ 32 → get_or words 2 0 < 32
    unfolding calls_in
    called_low h l = let q : suc (get_or words 2 0) ≤ 32 = rw (← told, h) at l in omega arith

    pub resolved_call : (w0 : List ℕ) → b ≡ true
        → 36 ∷ get_or words 1 0 ∷ get_or w0 (memory.definition_roots + get_or words 2 0) 0 ∷ get_or w0 (memory.definition_contexts + get_or words 2 0) 0 ∷ get_or w0 (memory.definition_types + get_or words 2 0) 0 ∷ 0 ∷ 0 ∷ get_or words 7 0 ∷ [] ≡ resolved_in w0 words count
    unfolding resolved_in
    resolved_call w0 h = rw (← told, h)

    pub depth_none : (w1 : List ℕ) → b ≡ false → 0 ≡ body_depth w1 words count
    unfolding body_depth
    depth_none w1 h = rw (← told, h)

    pub depth_far : (w1 : List ℕ) → b ≡ true → 768 ≤ get_or words 2 0 → 0 ≡ body_depth w1 words count
    unfolding body_depth
    depth_far w1 h l = rw (← told, h, le-ltb (get_or words 2 0) 768 l)

    pub depth_is : (w1 : List ℕ) {d : ℕ} → b ≡ true → get_or words 2 0 < 768 → d ≡ min (get_or w1 (memory.depths + get_or words 2 0) 0 / 2) 1000 → d ≡ body_depth w1 words count
    unfolding body_depth
    depth_is w1 h l e = rw (← told, h, lt-ltb (get_or words 2 0) 768 l) e

pub depth_small : (w1 words : List ℕ) (count : ℕ) → body_depth w1 words count ≤ 1000
unfolding body_depth
depth_small w1 words count = go (is_call words count && ltb (get_or words 2 0) 768)
  where
    go : (b : Bool) → (if b then min (get_or w1 (memory.depths + get_or words 2 0) 0 / 2) 1000 else 0) ≤ 1000
    go true = omega arith
    go false = omega arith

-- ---- a node's own operands stay as they are

first_operand : (words : List ℕ) → length words ≡ 8 → take 1 (drop 1 words) ≡ get_or words 1 0 ∷ []
first_operand [] h = absurd (omega arith)
first_operand (a ∷ []) h = absurd (omega arith)
first_operand (a ∷ b ∷ words) h = refl

module _ (w0 words : List ℕ) (count : ℕ) (size : length words ≡ 8) where
  pub resolved_operands : operands_at (resolved_in w0 words count) count ≡ operands_at words count
  unfolding resolved_in is_call
  resolved_operands = go (eqb count 1) refl (eqb (get_or words 0 0) 36)
    where
      go : (b : Bool) → b ≡ eqb count 1 → (c : Bool)
          → operands_at (if b && c then 36 ∷ get_or words 1 0 ∷ get_or w0 (memory.definition_roots + get_or words 2 0) 0 ∷ get_or w0 (memory.definition_contexts + get_or words 2 0) 0 ∷ get_or w0 (memory.definition_types + get_or words 2 0) 0 ∷ 0 ∷ 0 ∷ get_or words 7 0 ∷ [] else words) count ≡ operands_at words count
      go true e true = let q : count ≡ 1 = eqb-true count 1 (sym e) in rw q (sym (first_operand words size))
      go true e false = refl
      go false e c = refl

-- ---- what the words say of the form

pub record NoCall (x : Shape) : Type 0 where
  pub below : (n : ℕ) → call_below n x ≡ true
  pub depth : (ds : ℕ → Definition) → body_levels ds x ≡ 0
  pub words : (first type : ℕ) (d e : Called) (line : ℕ) → shape_words first type d line x ≡ shape_words first type e line x
  pub off : (type : ℕ) (d : Called) (line : ℕ) → is_call (shape_words 0 type d line x) (length (operands_of x)) ≡ false

pub data CallCase : Shape → Type 0 where
  a_call : (a n : ℕ) → CallCase (call a n)
  no_call : {x : Shape} → NoCall x → CallCase x

-- no leaf calls, and nothing of one operand but `call` does
leaf_calls : (l : Leaf) (n : ℕ) → (leaf_held l).called n ≡ true
unfolding leaf_held
leaf_calls (truth b) n = refl
leaf_calls undef n = refl
leaf_calls (number x) n = refl
leaf_calls self n = refl
leaf_calls (var i) n = refl
leaf_calls (all c) n = refl

unary_calls : (op : Unary) (n : ℕ) → (unary_held op).called n ≡ true
unfolding unary_held
unary_calls negation n = refl
unary_calls size_of n = refl
unary_calls (convert k) n = refl
unary_calls (cast_to c) n = refl

unary_code : (op : Unary) → eqb (unary_words op).0 36 ≡ false
unfolding unary_words
unary_code negation = refl
unary_code size_of = refl
unary_code (convert set) = refl
unary_code (convert sequence) = refl
unary_code (convert bag) = refl
unary_code (cast_to c) = refl

access_code_lem : (x : Access) → eqb (access_code x) 36 ≡ false
unfolding access_code
access_code_lem of_object = refl
access_code_lem of_members = refl

assemble_code_lem : (k : Kind) → eqb (assemble_code k) 36 ≡ false
unfolding assemble_code
assemble_code_lem set = refl
assemble_code_lem sequence = refl
assemble_code_lem bag = refl

pub call_case : (x : Shape) → CallCase x
unfolding held_by call_below body_levels shape_words is_call operands_of
call_case (leaf l) = no_call (record { below = leaf_calls l; depth = λ ds. refl; words = λ f t d e k. refl; off = λ t d k. refl })
call_case (unary op a) = no_call (record { below = unary_calls op; depth = λ ds. refl; words = λ f t d e k. refl; off = λ t d k. unary_code op })
call_case (binary op a b) = no_call (record { below = λ n. refl; depth = λ ds. refl; words = λ f t d e k. refl; off = λ t d k. refl })
call_case (connective c a b) = no_call (record { below = λ n. refl; depth = λ ds. refl; words = λ f t d e k. refl; off = λ t d k. refl })
call_case (is_undef a) = no_call (record { below = λ n. refl; depth = λ ds. refl; words = λ f t d e k. refl; off = λ t d k. refl })
call_case (conditional c a b) = no_call (record { below = λ n. refl; depth = λ ds. refl; words = λ f t d e k. refl; off = λ t d k. refl })
call_case (let_in i a b) = no_call (record { below = λ n. refl; depth = λ ds. refl; words = λ f t d e k. refl; off = λ t d k. refl })
call_case (attribute x name a) = no_call (record { below = λ n. refl; depth = λ ds. refl; words = λ f t d e k. refl; off = λ t d k. access_code_lem x })
call_case (call a n) = a_call a n
call_case (quantified q i a b) = no_call (record { below = λ n. refl; depth = λ ds. refl; words = λ f t d e k. refl; off = λ t d k. refl })
call_case (iterate i j t a e b) = no_call (record { below = λ n. refl; depth = λ ds. refl; words = λ f t d e k. refl; off = λ t d k. refl })
call_case (assemble m es) = no_call {x = assemble m es} (record { below = λ n. refl; depth = λ ds. refl; words = λ f t d e k. refl; off = λ t d k. rw (assemble_code_lem m, and-false) })

module _ (type line : ℕ) where
  pub calls_shape : (m : ℕ) (x : Shape) → leb (calls_in (shape_words 0 type (called_by by_number x) line x) (length (operands_of x))) m ≡ call_below m x
  unfolding calls_in is_call shape_words operands_of called_by held_by call_below
  calls_shape m x = go (call_case x)
    where
      go : {x : Shape} → CallCase x → leb (calls_in (shape_words 0 type (called_by by_number x) line x) (length (operands_of x))) m ≡ call_below m x
      go (a_call a n) = sym (less_leb n m)
      go {x} (no_call q) = rw (q.off type (called_by by_number x) line, q.below m) (zero_least m)

  pub resolved_shape : (w0 : List ℕ) (x : Shape) → resolved_in w0 (shape_words 0 type (called_by by_number x) line x) (length (operands_of x)) ≡ shape_words 0 type (called_by (called_at w0) x) line x
  unfolding resolved_in is_call shape_words operands_of called_by
  resolved_shape w0 x = go (call_case x)
    where
      go : {x : Shape} → CallCase x → resolved_in w0 (shape_words 0 type (called_by by_number x) line x) (length (operands_of x)) ≡ shape_words 0 type (called_by (called_at w0) x) line x
      go (a_call a n) = refl
      go {x} (no_call q) = rw (q.off type (called_by by_number x) line) (q.words 0 type (called_by by_number x) (called_by (called_at w0) x) line)

-- ---- what the tables hold of a definition

module _ {w0 w1 : List ℕ} {s : Sheet} (h : HoldsDefinitions w0 w1 s) (long : 8192 ≤ length w0) (few : length s.definitions ≤ 32) where
  module _ (n : ℕ) (l : n < length s.definitions) where
    class_at : class_in (get_or w0 (memory.definition_contexts + n) 0) ≡ (definition_of s.definitions n).context
    unfolding definition_of
    class_at =
        let q : get_or w0 (memory.definition_contexts + n) 0 < 64 = entry_each memory.definition_contexts (length s.definitions) w0 (omega arith) h.classes n l in
        let e : class_in (get_or w0 (memory.definition_contexts + n) 0) ≡ get_or w0 (memory.definition_contexts + n) 0 = omega arith in
        e ∙ entry_of (λ (d : Definition). d.context) memory.definition_contexts w0 s.definitions _ h.contexts n l

    type_at : type_in (get_or w0 (memory.definition_types + n) 0) ≡ (definition_of s.definitions n).type
    unfolding definition_of
    type_at = entry_by type_in (λ (d : Definition). d.type) memory.definition_types w0 s.definitions _ h.types n l

    body_at_lem : tree_at w1 (get_or w0 (memory.definition_roots + n) 0) ≡ (definition_of s.definitions n).body
    unfolding definition_of
    body_at_lem = entry_by (tree_at w1) (λ (d : Definition). d.body) memory.definition_roots w0 s.definitions _ h.bodies n l

    root_at : get_or w0 (memory.definition_roots + n) 0 < length s.lines
    root_at = entry_each memory.definition_roots (length s.definitions) w0 (omega arith) h.roots n l

    depth_at : get_or w1 (memory.depths + get_or w0 (memory.definition_roots + n) 0) 0 / 2 ≡ levels (tree_at w1 (get_or w0 (memory.definition_roots + n) 0))
    depth_at = entry_each {P = λ r. get_or w1 (memory.depths + r) 0 / 2 ≡ levels (tree_at w1 r)} memory.definition_roots (length s.definitions) w0 (omega arith) h.depths n l

  -- of the one that is called
  pub call_said : (f : ℕ → _) (x : Shape) → call_below (length s.definitions) x ≡ true → ((r : ℕ) → r < length s.lines → f r ≡ tree_at w1 r)
      → CallSaid f (definition_of s.definitions) (called_by (called_at w0) x) x
  unfolding called_by held_by call_below
  call_said f x there same = record {
    context = λ a n e. rw e (class_at n (low a n e));
    type = λ a n e. rw e (type_at n (low a n e));
    body = λ a n e. rw e (same (get_or w0 (memory.definition_roots + n) 0) (root_at n (low a n e)) ∙ body_at_lem n (low a n e));
  }
    where
      low : (a n : ℕ) → x ≡ call a n → n < length s.definitions
      low a n e = ltb-true n (length s.definitions) (ap (call_below (length s.definitions)) (sym e) ∙ there)

  pub depth_shape : (type line : ℕ) (x : Shape) → length s.lines ≤ 768 → call_below (length s.definitions) x ≡ true
      → body_depth w1 (shape_words 0 type (called_by (called_at w0) x) line x) (length (operands_of x)) ≡ body_levels (definition_of s.definitions) x
  unfolding body_depth is_call shape_words operands_of called_by held_by call_below body_levels
  depth_shape type line x small = go (call_case x)
    where
      go : {x : Shape} → CallCase x → call_below (length s.definitions) x ≡ true
          → body_depth w1 (shape_words 0 type (called_by (called_at w0) x) line x) (length (operands_of x)) ≡ body_levels (definition_of s.definitions) x
      go (a_call a n) there =
          let l = ltb-true n (length s.definitions) there in
          let d = tree_depth w1 (get_or w0 (memory.definition_roots + n) 0) in
          rw (lt-ltb (get_or w0 (memory.definition_roots + n) 0) 768 (omega (arith, root_at n l)), ← body_at_lem n l) (omega (arith, depth_at n l, root_at n l))
      go {x} (no_call q) there = rw (q.off type (called_by (called_at w0) x) line) (sym (q.depth (definition_of s.definitions)))
