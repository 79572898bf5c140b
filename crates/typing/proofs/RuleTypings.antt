-- The marks of a rule and of a definition, added to a table of which the first 768 words count. Assumes nothing.
use mathlib.Core.Path.{◌≡◌, ◌∙◌, ap}
use mathlib.Core.Bool.{Bool, true, false}
use mathlib.Core.List.{List, ◌++◌}
use Prim.Native.Nat.{ℕ, ◌≤◌}
use native.Mathlib.Omega.{arith}
use lib.ListN.{length, take, drop, length-append, length-drop}
use lib.Seq.{length-take-le, take_at, drop_at}
use Rattle.ocl.specs.Types.{Ty, Class, subtype}
use Rattle.ocl.specs.Environment.{Env, start}
use Rattle.ocl.specs.Model.{Schema}
use Rattle.ocl.specs.Typing.{type_rule, root, type_definition}
use Rattle.types.specs.declared.FlatType.{FlatType}
use Rattle.types.specs.Flat.{parents_in, ty_of}
use Rattle.types.specs.Word.{type_in}
use Rattle.nodes.specs.Nodes.{tree_at}
use Rattle.nodes.proofs.Nodes.{tree_law}
use Rattle.judgements.specs.Replies.{Tells, ReadsRows}
use Rattle.typing.specs.Tables.{node_at}
use Rattle.judgements.proofs.Composition.{early, after, done}
use Rattle.typing.specs.Rules.{TypesRule, definition_at, TypesDefinition}
use Rattle.std.specs.Prelude.{Result, Ok, Err}
use Rattle.memory.specs.Refusals.{at}
use Rattle.memory.specs.declared.refusals.Refusal.TheVariants.{WrongPiece}
use Rattle.memory.specs.declared.refusals.Refused.{Refused}

pub started : {B A : List ℕ} {r : Result FlatType Refused} {Γ : Env Ty} (m : Schema) (t : List ℕ) (n c : ℕ) → Γ ≡ start (Class c) → Tells (node_at t n m Γ) B A r → Tells (type_rule m c (tree_at t n)) B A r
unfolding type_rule
started m t n c h d = rw h at d

module _ (tables : List ℕ) (classes rows : ℕ) (nodes : List ℕ) (context root : ℕ) (before part : List ℕ) (r : Result FlatType Refused) where
  -- what is said of the first 768 words, of the whole
  pub rule_done : 768 ≤ length before → length part ≡ length (take 768 before)
      → ((k : Schema) → ReadsRows (take classes tables) tables rows k → Tells (type_rule k context (tree_at nodes root)) (take 768 before) part r)
      → TypesRule tables classes rows nodes context root before (part ++ drop 768 before) r
  rule_done room size d =
      let k : length (take 768 before) ≡ 768 = length-take-le 768 before room in
      record {
        is = λ m h. (d m h).is;
        marked = λ m h. take_at part (drop 768 before) 768 (size ∙ k) ∙ (d m h).wrote;
        rest = drop_at part (drop 768 before) 768 (size ∙ k);
        size = simp (length-append, length-drop) (omega arith);
      }

-- ---- a definition

root_at : (t : List ℕ) (n : ℕ) → root (tree_at t n) ≡ n
unfolding root
root_at t n = ap root (tree_law t n)

-- once its body is typed as a rule is; w is the word of its type
module _ {tables : List ℕ} {classes rows : ℕ} {nodes : List ℕ} {context top : ℕ} {before last : List ℕ} {r : Result FlatType Refused} (w : ℕ)
    (x : TypesRule tables classes rows nodes context top before last r) where
  further : {s : Result FlatType Refused} → ((k : Schema) → ReadsRows (take classes tables) tables rows k → Tells (type_rule k context (tree_at nodes top)) (take 768 before) (take 768 last) r
      → Tells (type_definition k (definition_at nodes context w top)) (take 768 before) (take 768 last) s) → TypesDefinition tables classes rows nodes context w top before last s
  further f = record {
    is = λ k h. (f k h (record { is = x.is k h; wrote = x.marked k h })).is;
    marked = λ k h. (f k h (record { is = x.is k h; wrote = x.marked k h })).wrote;
    rest = x.rest;
    size = x.size;
  }

  pub definition_first : {a : Refused} → r ≡ Err a → TypesDefinition tables classes rows nodes context w top before last (Err a)
  unfolding type_definition
  definition_first q = further (λ k h d. early _ d q)

  module _ {t : FlatType} (u : FlatType) {b : Bool} (q : r ≡ Ok t) (e : ty_of u ≡ type_in w) (d : b ≡ subtype (parents_in (take classes tables)) (ty_of t) (ty_of u)) where
    pub definition_below : b ≡ true → TypesDefinition tables classes rows nodes context w top before last (Ok u)
    unfolding type_definition
    definition_below h = further (λ k m y. after _ y q (done (rw (m.classes.parent, ← e, ← d, h))))

    pub definition_over : b ≡ false → TypesDefinition tables classes rows nodes context w top before last (Err (at WrongPiece top))
    unfolding type_definition
    definition_over h = further (λ k m y. after _ y q (done (rw (m.classes.parent, ← e, ← d, h, root_at nodes top))))
