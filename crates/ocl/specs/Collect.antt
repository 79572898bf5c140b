-- Document 02, F-4: `collect` in cases, each of which a checker with a likely mistake gets wrong.
use Rattle.std.specs.Prelude.{◌≡◌, true, [], ◌∷◌, ℕ, zero, suc, pos}
use Rattle.std.proofs.Math.Option.{Option, none, some}
use Rattle.reals.specs.Reals.{int}
use Rattle.ocl.specs.Types.{set, sequence, bag, exactly, around, Boolean, Integer}
use Rattle.ocl.specs.Values.{Value, bool, num, coll, Values, nil, cons}
use Rattle.ocl.specs.Model.{Row, Model, schema_of}
use Rattle.ocl.specs.Forms.{of_members, truth, self, all, Expr, node, leaf, conditional, attribute, assemble, no_operand, operand}
use Rattle.ocl.specs.Marks.{of_rows, mark_in}
use Rattle.ocl.specs.Typing.{typed, refused, Typed, type_rule}
use Rattle.ocl.specs.Operations.{Outcome, value, undefined, stop}
use Rattle.ocl.specs.Evaluation.{evaluate_rule}
use Rattle.ocl.specs.Worked.{parents, int₀}

-- class 0 declares 5, 6 and 7, of which 7 is three deep; class 1, below it, declares 5 again
unfoldable pub block_rows : ℕ → Row
block_rows zero = record { owner = 0; name = 5; type = Integer }
block_rows (suc zero) = record { owner = 1; name = 5; type = Boolean }
block_rows (suc (suc zero)) = record { owner = 0; name = 6; type = around (exactly sequence) Integer }
block_rows (suc (suc (suc i))) = record { owner = 0; name = 7; type = around (exactly set) (around (exactly set) (around (exactly set) Integer)) }

-- object 0 is of class 1, objects 1 and 2 are of class 0
unfoldable pub block_classes : ℕ → Option ℕ
block_classes zero = some 1
block_classes (suc zero) = some 0
block_classes (suc (suc zero)) = some 0
block_classes (suc (suc (suc o))) = none

unfoldable pub zeros : ℕ → Values
zeros zero = nil
zeros (suc n) = cons (num (int (pos 0))) (zeros n)

-- in row 0 they have 9, 4 and 4; in row 1 object 0 has true; in row 2 objects 0 and 1 have 63 zeros, and object 2 has no value
unfoldable pub block_values : ℕ → ℕ → Option Value
block_values zero zero = some (num (int (pos 9)))
block_values (suc o) zero = some (num (int (pos 4)))
block_values o (suc zero) = some (bool true)
block_values zero (suc (suc i)) = some (coll sequence (zeros 63))
block_values (suc zero) (suc (suc i)) = some (coll sequence (zeros 63))
block_values (suc (suc o)) (suc (suc i)) = none

unfoldable pub blocks : Model
blocks = record { parent = parents; row_count = 4; row = block_rows; object_count = 3; class_of = block_classes; value_of = block_values }

-- a rule of class 0, typed, and evaluated for object 0
unfoldable pub collect_typing : Expr → Typed
collect_typing e = type_rule (schema_of blocks) 0 e

unfoldable pub collect_outcome : Expr → Outcome
collect_outcome e = evaluate_rule blocks (mark_in (collect_typing e).marks) e 0

unfoldable pub self₀ : ℕ → Expr
self₀ n = node n (leaf self)

-- `collect s name`, with s of n nodes
unfoldable pub collect₀ : ℕ → ℕ → Expr → Expr
collect₀ n name s = node n (attribute of_members name s)

-- `all 0`; `coll Q self`; `coll Q self self`; `if true then coll Q self else coll S self`, of type C(#0)
unfoldable pub every_block : Expr
every_block = node 0 (leaf (all 0))

unfoldable pub one_block : Expr
one_block = node 1 (assemble sequence (operand (self₀ 0) no_operand))

unfoldable pub twice : Expr
twice = node 2 (assemble sequence (operand (self₀ 0) (operand (self₀ 1) no_operand)))

unfoldable pub any_kind : Expr
any_kind = node 5 (conditional (node 0 (leaf (truth true))) (node 2 (assemble sequence (operand (self₀ 1) no_operand))) (node 4 (assemble set (operand (self₀ 3) no_operand))))

pub record Collect : Type 0 where
  -- a Set gives a Bag, repeats and all, in order
  pub bag_type : collect_typing (collect₀ 1 5 every_block) ≡ record { answer = typed (around (exactly bag) Integer); marks = (1, of_rows bag 0) ∷ [] }
  pub bag_value : collect_outcome (collect₀ 1 5 every_block) ≡ value (coll bag (cons (num (int (pos 4))) (cons (num (int (pos 4))) (cons (num (int (pos 9))) nil)))) 2
  -- a Sequence gives a Sequence, and the row is that of the static class, although object 0's own class declares the name
  pub sequence_type : collect_typing (collect₀ 2 5 one_block) ≡ record { answer = typed (around (exactly sequence) Integer); marks = (2, of_rows sequence 0) ∷ [] }
  pub static_row : collect_outcome (collect₀ 2 5 one_block) ≡ value (coll sequence (cons (num (int (pos 9))) nil)) 3
  -- the type decides and not the value: a Sequence of type C(#0) gives a Bag
  pub by_type : collect_outcome (collect₀ 6 5 any_kind) ≡ value (coll bag (cons (num (int (pos 9))) nil)) 5
  -- nothing is flattened
  pub not_flat : collect_outcome (collect₀ 2 6 one_block) ≡ value (coll sequence (cons (coll sequence (zeros 63)) nil)) 3
  -- two times 64 cells are 17; with a member that has no value besides, the whole is undefined
  pub too_large : collect_outcome (collect₀ 3 6 twice) ≡ stop 17 4
  pub undefined_first : collect_outcome (collect₀ 1 6 every_block) ≡ undefined 2
  -- 11: no collection, members of type Void, of type Any; 12; 13
  pub no_collection : (collect_typing (collect₀ 1 5 (self₀ 0))).answer ≡ refused 11 1
  pub void_members : (collect_typing (collect₀ 1 5 (node 0 (assemble set no_operand)))).answer ≡ refused 11 1
  pub any_members : (collect_typing (collect₀ 3 5 (node 2 (assemble set (operand (self₀ 0) (operand (int₀ 1 (pos 1)) no_operand)))))).answer ≡ refused 11 3
  pub no_row_lem : (collect_typing (collect₀ 1 8 every_block)).answer ≡ refused 12 1
  pub too_deep : (collect_typing (collect₀ 1 7 every_block)).answer ≡ refused 13 1
