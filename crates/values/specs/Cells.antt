-- Values as cells: one 64-bit word for each value, and after a collection's cell those of its members. So there are as many
-- cells as the value's size says, and the order of values is the order of their cells (proofs/Heads.antt and
-- proofs/Encoding.antt have the laws through which everything else knows `enc`). A number's word is its place among all numbers
-- (crate reals, specs/Words.antt); it leaves room at both ends, and there the other values have theirs.
use Rattle.std.specs.Prelude.{Bool, true, false, List, [], ◌∷◌, ◌++◌, T, ltb}
use Prim.Native.Nat.{ℕ, zero, suc, ◌+◌, ◌*◌, ◌%◌, ◌<◌, compare, Ordering}
use Rattle.std.specs.Prelude.{if◌then◌else◌}
use Rattle.std.specs.declared.cmp.Ordering.{Ordering as Library}
use Rattle.std.specs.declared.cmp.Ordering.TheVariants.{Less, Equal, Greater}
unfoldable pub use Rattle.laws.specs.Integers.{bias}
use Rattle.reals.specs.Reals.{Number, kept}
use Rattle.reals.specs.Words.{cell}
use Rattle.ocl.specs.Types.{Kind, kind_code}
use Rattle.ocl.specs.Values.{Value, bool, num, obj, coll, Values, nil, cons, count, then_order}

-- false before true
unfoldable pub bit : Bool → ℕ
bit false = 0
bit true = 1

-- the truth value, the object's number, or how many members there are; a number is its whole cell and has none
unfoldable pub payload : Value → ℕ
payload (bool b) = bit b
payload (num x) = 0
payload (obj o) = o
payload (coll k vs) = count vs

-- objects have their cells from 2^64 - 2^52 on, Sets, Sequences and Bags after them, 2^32 apart; from `cells_top` on there are none
abbrev pub object_cells : ℕ
object_cells = 18442240474082181120

abbrev pub collection_cells : ℕ
collection_cells = 18442240478377148416

abbrev pub cells_top : ℕ
cells_top = 18442240491262050304

abbrev pub sort_span : ℕ
sort_span = 4294967296

-- a value's first cell
unfoldable pub head : Value → ℕ
head (bool b) = bit b
head (num x) = cell x
head (obj o) = object_cells + o
head (coll k vs) = collection_cells + sort_span * kind_code k + count vs

unfoldable mutual
  pub enc : Value → List ℕ
  enc (bool b) = head (bool b) ∷ []
  enc (num x) = head (num x) ∷ []
  enc (obj o) = head (obj o) ∷ []
  enc (coll k vs) = head (coll k vs) ∷ encs vs

  pub encs : Values → List ℕ
  encs nil = []
  encs (cons v vs) = enc v ++ encs vs

-- the values that cells can hold: numbers that a value may hold, object numbers and counts of members below 2^32
mutual
  pub data Fits : Value → Type 0 where
    fits_bool : {b : Bool} → Fits (bool b)
    fits_num : {x : Number} → T (kept x) → Fits (num x)
    fits_obj : {o : ℕ} → o < sort_span → Fits (obj o)
    fits_coll : {k : Kind} {vs : Values} → count vs < sort_span → AllFit vs → Fits (coll k vs)

  pub data AllFit : Values → Type 0 where
    fit_nil : AllFit nil
    fit_cons : {v : Value} {vs : Values} → Fits v → AllFit vs → AllFit (cons v vs)

-- ---- what the code does with cells, said of lists of numbers

-- the first cells that differ decide, and a list comes before a longer one that begins with it
unfoldable pub lex : List ℕ → List ℕ → Ordering
lex [] [] = Ordering.eq
lex [] (b ∷ ys) = Ordering.lt
lex (a ∷ xs) [] = Ordering.gt
lex (a ∷ xs) (b ∷ ys) = then_order (compare a b) (lex xs ys)

-- an order as code answers it
unfoldable pub ordering : Ordering → Library
ordering Ordering.lt = Less
ordering Ordering.eq = Equal
ordering Ordering.gt = Greater

-- how many members the value with this first cell has; the cells of collections come last
unfoldable pub kids : ℕ → ℕ
kids c = if ltb c collection_cells then 0 else c % sort_span

-- how many cells the next n values take
unfoldable pub past : List ℕ → ℕ → ℕ
past [] n = 0
past (c ∷ cs) zero = 0
past (c ∷ cs) (suc n) = suc (past cs (n + kids c))
