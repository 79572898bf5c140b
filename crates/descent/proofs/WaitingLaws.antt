-- The `let`s that a whole expression stands in, while it is read: the state of the loop, and one `let` more. Assumes nothing.
use mathlib.Core.Path.{◌≡◌, refl, sym, subst}
use mathlib.Core.Option.{none}
use mathlib.Core.List.{List, [], ◌∷◌, ◌++◌, append-nil}
use Prim.Native.Nat.{ℕ, ◌+◌, ◌*◌, ◌≤◌, ◌<◌}
use native.Mathlib.Omega.{arith}
use lib.ListN.{length, length-append, get_or}
use Rattle.memory.specs.Map as memory
use Rattle.sheet.specs.Text.{Bytes}
use Rattle.sheet.specs.Lines.{Shape}
use Rattle.sheet.specs.Grammar.Sentences.{whole}
use Rattle.sheet.specs.Grammar.Parser as parser
use Rattle.tables.specs.Layout.{Kept}
use Rattle.tables.proofs.Tables.{kept_refl, kept_then}
use Rattle.tokens.specs.declared.Token.{Token}
use Rattle.tokens.specs.Meanings.{onward, Ahead}
use Rattle.phrases.specs.Meanings.{Further}
use Rattle.emission.specs.Nodes.{HoldsNodes}
use Rattle.emission.proofs.NodeLaws.{parsed_kept}
use Rattle.importer.specs.Answers.{Answers}
use Rattle.importer.specs.Lets.{SameLets, Frame, value, body, counted, value_nodes, LetsLie, no_lets, HeadAt, no_head, broken_head, a_head}
use Rattle.importer.specs.Descent.{Room, FoundAt, found_none}
use Rattle.importer.proofs.LetLaws.{lets_refl, lets_less, lets_then, values_size}
use Rattle.importer.proofs.WholeLaws.{let_broken, Outer, out_none, none_outer, pushed, unread as unread_in}
use Rattle.std.specs.Prelude.{Option as Optional, Some, None}

-- nodes are where no other word is changed
pub holds_below : {k : ℕ} {xs : List Shape} {v w : List ℕ} → length xs ≤ 768 → ((j : ℕ) → j < memory.nodes_end → get_or w j 0 ≡ get_or v j 0) → HoldsNodes k xs v → HoldsNodes k xs w
holds_below {k} {xs} {v} {w} l same h = record {
  at = λ i m. rw (parsed_kept k v w i (λ j q. same (8 * i + j) (omega arith))) (h.at i m);
}

pub unread_few : (fs : List Frame) → unread_in fs ≤ length fs
unfolding unread_in
unread_few [] = omega arith
unread_few (value i ∷ fs) = let h = unread_few fs in omega arith
unread_few (body i e ∷ fs) = let h = unread_few fs in omega arith

-- ---- the loop

-- the `let`s fs are open after n nodes, and lie in the words
pub record Lying (k from n : ℕ) (fs : List Frame) (before : List ℕ) (nodes lets : ℕ) (w : List ℕ) : Type 0 where
  pub lets_are : lets ≡ from + length fs
  pub nodes_are : nodes ≡ n + counted fs
  pub lies : LetsLie w from n fs
  pub holds : (xs : List Shape) → length xs ≡ n → HoldsNodes k xs before → HoldsNodes k (xs ++ value_nodes n fs) w

-- what is read at u stands in the `let`s `frames`, which begin at t
pub record Waiting (k : ℕ) (s : Bytes) (t : Token) (n d : ℕ) (before : List ℕ) (u : Token) (nodes lets unread : ℕ) (w : List ℕ) : Type 0 where
  pub frames : List Frame
  pub waits : unread ≡ unread_in frames
  pub sum : nodes + lets ≡ n + d + (counted frames + length frames)
  pub least : d + unread ≤ lets
  pub ahead : Ahead s u
  pub from : t.start + (counted frames + length frames) ≤ u.start
  pub lying : nodes + lets ≤ 768 → Lying k d n frames before nodes lets w
  pub same : SameLets d before w
  pub kept : Kept before w
  pub on : (x o : parser.Found) → Answers whole (onward s u) x → Outer frames x o → Answers whole (onward s t) o

pub waiting_start : {k : ℕ} {s : Bytes} {t : Token} {n d : ℕ} {w : List ℕ} → Room s t n d w → Waiting k s t n d w t n d 0 w
unfolding counted value_nodes unread_in
waiting_start {k} {s} {t} {n} {d} {w} r = record {
  frames = [];
  waits = refl;
  sum = omega arith;
  least = omega arith;
  ahead = r.ahead;
  from = omega arith;
  lying = λ l. record {
    lets_are = omega arith;
    nodes_are = omega arith;
    lies = no_lets;
    holds = λ xs e h. subst (λ (y : List Shape). HoldsNodes k y w) (sym (append-nil xs)) h;
  };
  same = lets_refl d w;
  kept = kept_refl w;
  on = λ x o a q. subst (λ (y : parser.Found). Answers whole (onward s t) y) (none_outer q) a;
}

module _ {k : ℕ} {s : Bytes} {t : Token} {n d : ℕ} {before : List ℕ} {u : Token} {nodes lets unread : ℕ} {w : List ℕ} (g : Waiting k s t n d before u nodes lets unread w) where
  pub room_waiting : Room s t n d before → Room s u nodes lets w
  room_waiting r = record {
    ahead = g.ahead;
    few = let a = r.few in let b = g.from in let c = g.sum in omega arith;
    long = let a = r.long in let b = g.kept.size in omega arith;
  }

  -- no more than bytes that have been read
  pub waiting_few : Room s t n d before → (nodes + lets ≤ length s) × (unread ≤ length s)
  waiting_few r =
      let a = r.few in
      let b = g.from in
      let c = g.sum in
      let e = g.ahead.order in
      let f = g.ahead.within in
      let h = g.waits in
      let i = unread_few g.frames in
      (omega arith, omega arith)

  module _ {r : Optional (Optional Token)} {v : List ℕ} (h : HeadAt s u lets w r v) where
    pub head_kept : Kept w v
    head_kept = go h
      where
        go : {r : Optional (Optional Token)} {v : List ℕ} → HeadAt s u lets w r v → Kept w v
        go (no_head a) = kept_refl w
        go (broken_head q a b) = kept_refl w
        go (a_head q i a b c f o) = o.kept

    pub waiting_broken : r ≡ Some None → FoundAt whole k s t n d before None v
    waiting_broken e = go (rw e at h)
      where
        go : {v : List ℕ} → HeadAt s u lets w (Some None) v → FoundAt whole k s t n d before None v
        go (broken_head q a b) = found_none (g.on none none (let_broken (onward s u) q a b) out_none) g.kept

    pub head_further : {u' : Token} → r ≡ Some (Some u') → Further s u u'
    head_further {u'} e = go (rw e at h)
      where
        go : {v : List ℕ} → HeadAt s u lets w (Some (Some u')) v → Further s u u'
        go (a_head q i a b c f o) = f

    -- one `let` more
    pub waiting_head : {u' : Token} → r ≡ Some (Some u') → Waiting k s t n d before u' nodes (lets + 1) (unread + 1) v
    unfolding counted value_nodes unread_in
    waiting_head {u'} e = go (rw e at h)
      where
        go : {v : List ℕ} → HeadAt s u lets w (Some (Some u')) v → Waiting k s t n d before u' nodes (lets + 1) (unread + 1) v
        go (a_head q i a b c f o) = record {
          frames = value i ∷ g.frames;
          waits = let z = g.waits in omega arith;
          sum = let z = g.sum in omega arith;
          least = let z = g.least in omega arith;
          ahead = f.ahead;
          from = let z = g.from in let y = f.from in omega arith;
          lying = λ l.
              let y = g.lying (omega arith) in
              record {
                lets_are = let z = y.lets_are in omega arith;
                nodes_are = y.nodes_are;
                lies = o.lies d n g.frames i c y.lets_are (omega arith) y.lies;
                holds = λ xs z x.
                    holds_below (let p = length-append xs (value_nodes n g.frames) in let m = values_size n g.frames in let j = y.nodes_are in omega arith) o.below
                    (y.holds xs z x);
              };
          same = lets_then g.same (lets_less d (omega (arith, g.least)) o.lets);
          kept = kept_then g.kept o.kept;
          on = λ x z y p. let m = pushed (onward s u) q a i (onward s u') b g.frames x z y p in g.on m.0 z m.1 m.2;
        }
