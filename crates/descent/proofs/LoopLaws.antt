-- Whole expressions: each return and each turn of the loop that reads what stands in `let`s. Assumes nothing.
use mathlib.Core.Path.{◌≡◌, refl, sym, ap, ◌∙◌, subst}
use mathlib.Core.Logic.{◌≢◌}
use mathlib.Core.Option.{none, some}
use mathlib.Core.List.{List, [], ◌∷◌, ◌++◌, append_assoc}
use Prim.Native.Nat.{ℕ, suc, ◌+◌, ◌-◌, ◌≤◌, ◌<◌}
use native.Mathlib.Decide.{dec_lt}
use native.Mathlib.Omega.{arith}
use lib.ListN.{length, length-append}
use Rattle.sheet.specs.Text.{Bytes}
use Rattle.sheet.specs.Lines.{Shape}
use Rattle.sheet.specs.Grammar.Trees.{Tree, count, shapes}
use Rattle.sheet.specs.Grammar.Sentences.{whole, disjunction}
use Rattle.tables.specs.Layout.{Kept}
use Rattle.tables.proofs.Tables.{kept_then}
use Rattle.tokens.specs.declared.Token.{Token}
use Rattle.tokens.specs.Codes.{after_code}
use Rattle.tokens.specs.Meanings.{onward}
use Rattle.phrases.specs.Meanings.{AfterIs, after_none, after_one}
use Rattle.emission.specs.Nodes.{HoldsNodes}
use Rattle.importer.specs.Answers.{Answers}
use Rattle.importer.specs.Lets.{SameLets, Frame, value, body, counted, value_nodes, Open, ended_in, left_open, LetsClosed, HeadAt, no_head, ValueEnded}
use Rattle.importer.specs.Descent.{Room, FoundOne, FoundAt, found_none, found_one}
use Rattle.importer.specs.declared.lets.Closed.{Closed}
use Rattle.importer.proofs.LetLaws.{lets_less, lets_then, lets_kept, values_size}
use Rattle.importer.proofs.WholeLaws.{whole_as, out_end, out_none, out_open, out_in, unread as unread_in, bodies_end, left_unread, left_none, LeftValue, left_value, left_sum}
use Rattle.descent.proofs.FoundLaws.{found_kept, no_answer, one_found}
use Rattle.descent.proofs.WaitingLaws.{holds_below, unread_few, Waiting, room_waiting, head_kept}
use Rattle.std.specs.Prelude.{Option as Optional, Some, None}

module _ {k : ℕ} {s : Bytes} {t : Token} {n d : ℕ} {before : List ℕ} {u : Token} {nodes lets unread : ℕ} {w : List ℕ} (g : Waiting k s t n d before u nodes lets unread w)
    {r : Optional (Optional Token)} {v : List ℕ} (h : HeadAt s u lets w r v) where
  -- no `let`: an expression that stands in those which are open
  module _ (e : r ≡ None) where
    no_let : after_code 32 (onward s u) ≡ none
    no_let = go (rw e at h)
      where
        go : {v : List ℕ} → HeadAt s u lets w None v → after_code 32 (onward s u) ≡ none
        go (no_head a) = a

    pub same_words : w ≡ v
    same_words = go (rw e at h)
      where
        go : {v : List ℕ} → HeadAt s u lets w None v → w ≡ v
        go (no_head a) = refl

    pub room_inside : Room s t n d before → Room s u nodes lets v
    room_inside r = subst (λ (y : List ℕ). Room s u nodes lets y) same_words (room_waiting g r)

    module _ {q : Optional (Token × ℕ)} {v' : List ℕ} (x : FoundAt disjunction k s u nodes lets v q v') where
      pub inside_fails : q ≡ None → FoundAt whole k s t n d before None v'
      inside_fails z = found_none (g.on none none (whole_as (onward s u) none no_let (no_answer x z)) out_none) (kept_then g.kept (kept_then (head_kept g h) (found_kept x)))

      module _ {u' : Token} {all : ℕ} (z : q ≡ Some (u', all)) where
        found : FoundOne disjunction k s u nodes lets v u' all v'
        found = one_found x z

        -- the words are still those that the loop began its turn with
        now : Waiting k s t n d before u nodes lets unread v
        now = subst (λ (y : List ℕ). Waiting k s t n d before u nodes lets unread y) same_words g

        answer : Answers whole (onward s u) (some (found.tree, onward s u'))
        answer = whole_as (onward s u) (some (found.tree, onward s u')) no_let found.answers

        opened : all + lets ≤ 768 → Open k d n now.frames found.tree before all lets v'
        opened l =
            let c = found.counted in
            let m = now.lying (omega arith) in
            let a = m.lets_are in
            let b = m.nodes_are in
            record {
              lets = a;
              count = omega arith;
              lies = lets_kept (lets_less (d + length now.frames) (omega arith) found.wrote.lets) (omega arith) m.lies;
              nodes = λ xs i y.
                  subst (λ (f : List Shape). HoldsNodes k f v')
                  (append_assoc xs (value_nodes n now.frames) (shapes found.tree nodes) ∙ ap (λ (j : ℕ). xs ++ (value_nodes n now.frames ++ shapes found.tree j)) b)
                  (found.wrote.nodes (omega arith) (xs ++ value_nodes n now.frames)
                  (let p = length-append xs (value_nodes n now.frames) in let o = values_size n now.frames in omega arith) (m.holds xs i y));
            }

        module _ {c : Closed} {v'' : List ℕ} (closed : LetsClosed k d all lets v' c v'') where
          ended : c.nodes + c.lets ≤ 768 → Open k d n (left_open now.frames) (ended_in now.frames found.tree) before c.nodes c.lets v''
          ended l = let a = closed.sum in closed.ends n now.frames found.tree before (omega arith) (opened (omega arith))

          pub turn_kept : Kept before v''
          turn_kept = kept_then now.kept (kept_then found.wrote.kept closed.kept)

          turn_same : SameLets d before v''
          turn_same = lets_then now.same (lets_then (lets_less d (omega (arith, now.least)) found.wrote.lets) closed.lets)

          pub whole_ends : unread ≡ 0 → FoundAt whole k s t n d before (Some (u', c.nodes + (c.lets - d))) v''
          unfolding counted value_nodes
          whole_ends o =
              let none_left = left_none now.frames (sym now.waits ∙ o) in
              let a : counted (left_open now.frames) ≡ 0 = ap counted none_left in
              let b : length (left_open now.frames) ≡ 0 = ap length none_left in
              let f = left_sum now.frames found.tree in
              let i = now.sum in
              let j = closed.sum in
              let m = closed.least in
              let y = found.counted in
              found_one {m = c.nodes + (c.lets - d)} record {
                tree = tree;
                answers = now.on (some (found.tree, onward s u')) (some (tree, onward s u')) answer (bodies_end now.frames found.tree (onward s u') (some (tree, onward s u')) (rw none_left out_end));
                ahead = found.ahead;
                counted = omega arith;
                from = let p = now.from in let e = found.from in omega arith;
                wrote = record {
                  nodes = λ l xs p e. nodes_of_lem none_left (ended (omega arith)) xs p e;
                  lets = turn_same;
                  kept = turn_kept;
                };
              }
            where
              tree : Tree
              tree = ended_in now.frames found.tree

              nodes_of_lem : left_open now.frames ≡ [] → Open k d n (left_open now.frames) tree before c.nodes c.lets v'' → (xs : List Shape) → length xs ≡ n → HoldsNodes k xs before
                  → HoldsNodes k (xs ++ shapes tree n) v''
              nodes_of_lem e y xs p h =
                  let i : n + 0 ≡ n = omega arith in
                  let b : HoldsNodes k (xs ++ shapes tree (n + 0)) v'' = subst (λ (fs : List Frame). HoldsNodes k (xs ++ (value_nodes n fs ++ shapes tree (n + counted fs))) v'') e (y.nodes xs p h) in
                  subst (λ (j : ℕ). HoldsNodes k (xs ++ shapes tree j) v'') i b

          module _ (some-let : unread ≢ 0) where
            reading : LeftValue now.frames
            reading = left_value now.frames (let a = now.waits in omega arith)

            module _ {p : Optional Token} (f : AfterIs s u' 50 p) where
              pub in_missing : p ≡ None → FoundAt whole k s t n d before None v''
              in_missing i = go (rw i at f)
                where
                  go : AfterIs s u' 50 None → FoundAt whole k s t n d before None v''
                  go (after_none a) =
                      found_none
                      (now.on (some (found.tree, onward s u')) none answer (bodies_end now.frames found.tree (onward s u') none (rw reading.is (out_open a)))) turn_kept

              pub body_next : {u'' : Token} → p ≡ Some u'' → {w' : List ℕ} → ValueEnded c.lets c.nodes v'' w' → Waiting k s t n d before u'' c.nodes c.lets (unread - 1) w'
              unfolding counted value_nodes unread_in
              body_next {u''} i {w'} end = go (rw i at f)
                where
                  fs : List Frame
                  fs = reading.rest

                  ended_tree : Tree
                  ended_tree = ended_in now.frames found.tree

                  total : counted fs + (suc (length fs) + count ended_tree) ≡ counted now.frames + (length now.frames + count found.tree)
                  total = subst (λ (gs : List Frame). counted gs + (length gs + count ended_tree) ≡ counted now.frames + (length now.frames + count found.tree)) reading.is (left_sum now.frames found.tree)

                  open_value : c.nodes + c.lets ≤ 768 → Open k d n (value reading.variable ∷ fs) ended_tree before c.nodes c.lets v''
                  open_value l = subst (λ (gs : List Frame). Open k d n gs ended_tree before c.nodes c.lets v'') reading.is (ended l)

                  one_less : unread ≡ suc (unread_in fs)
                  one_less = now.waits ∙ sym (left_unread now.frames) ∙ ap unread_in reading.is

                  -- as many are open as values are to be read
                  enough : d + unread ≤ c.lets
                  enough = by (dec_lt 768 (c.nodes + c.lets))
                    where
                      by : Dec (768 < c.nodes + c.lets) → d + unread ≤ c.lets
                      by (yes l) = omega (arith, now.least, closed.sum, closed.past (omega (arith, closed.sum)))
                      by (no l) = omega (arith, (open_value (omega arith)).lets, one_less, unread_few fs)

                  go : AfterIs s u' 50 (Some u'') → Waiting k s t n d before u'' c.nodes c.lets (unread - 1) w'
                  go (after_one a b) = record {
                    frames = body reading.variable ended_tree ∷ fs;
                    waits = let j = one_less in omega arith;
                    sum = let j = total in let m = now.sum in let y = closed.sum in let o = found.counted in omega arith;
                    least = omega (arith, enough);
                    ahead = b.ahead;
                    from = let j = total in let m = now.from in let y = found.from in let o = b.from in omega arith;
                    lying = λ l.
                        let y = open_value l in
                        let j = y.lets in
                        let m = y.count in
                        record {
                          lets_are = j;
                          nodes_are = m;
                          lies = end.lies d n fs reading.variable ended_tree j (omega arith) m y.lies;
                          holds = λ xs o h.
                              holds_below
                              (let q = length-append xs (value_nodes n fs ++ shapes ended_tree (n + counted fs)) in let r = values_size n (body reading.variable ended_tree ∷ fs) in omega arith) end.below
                              (y.nodes xs o h);
                        };
                    same = lets_then turn_same (end.lets d (omega (arith, enough)));
                    kept = kept_then turn_kept end.kept;
                    on = λ o j m q.
                        now.on (some (found.tree, onward s u')) j answer (bodies_end now.frames found.tree (onward s u') j (rw reading.is (out_in a m q)));
                  }
