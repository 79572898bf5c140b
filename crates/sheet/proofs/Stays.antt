-- Which lines stay with an open definition or rule: a line's first field says it. Assumes nothing.
use mathlib.Core.Path.{◌≡◌, refl, sym, subst}
use mathlib.Core.Bool.{Bool, true, false}
use mathlib.Core.Option.{Option, some}
use mathlib.Core.List.{List, [], ◌∷◌}
use Prim.Native.String.{String}
use Rattle.laws.proofs.Tests.{All?, all_none, all_some, all_on, all_self, at_some}
use Rattle.sheet.specs.Text.{Bytes, bytes}
use Rattle.sheet.specs.Lines.{Line, class_line, row_line, object_line, value_line, definition_line, rule_line, node_line, text_line, is, next, done, a_word, a_number, a_parent, shape_of, line_of, in_body}
use Rattle.sheet.specs.Spelling.{read_type, read_value}
use Rattle.sheet.proofs.Grammar.Single.{all_map, all_if, is_exact}

unfoldable pub of_body : Line → Bool
of_body (class_line n p) = false
of_body (row_line n c name t) = false
of_body (object_line n c) = false
of_body (value_line o a v) = false
of_body (definition_line n c t) = false
of_body (rule_line n c) = false
of_body (node_line n x) = true
of_body (text_line x) = true

pub all_next : {A B : Type 0} {P : B → Type 0} (read : Bytes → Option A) {k : A → List Bytes → Option B} (fs : List Bytes) → ((x : A) (gs : List Bytes) → All? P (k x gs)) → All? P (next read k fs)
unfolding next
all_next read [] h = all_none
all_next read (f ∷ fs) h = all_on (all_self (read f)) (λ x e. h x fs)

pub all_done : {A : Type 0} {P : A → Type 0} (x : A) (fs : List Bytes) → P x → All? P (done x fs)
unfolding done
all_done x [] h = all_some h
all_done x (f ∷ fs) h = all_none

-- a line's letter says whether it stays with a body
letter : (w : String) → (fs : List Bytes) → (b : Bool) → in_body (bytes w ∷ fs) ≡ b → (u : Bytes) → is u (bytes w) ≡ true → b ≡ in_body (u ∷ fs)
letter w fs b h u e = rw (is_exact u (bytes w) e) (sym h)

line_of_body : (fs : List Bytes) → All? (λ l. of_body l ≡ in_body fs) (line_of fs)
unfolding line_of of_body a_word in_body is bytes
line_of_body [] = all_none
line_of_body (w ∷ fs) =
    all_if (is w (bytes "C")) (λ e. all_next a_number fs (λ n gs. all_next a_parent gs (λ p hs. all_done _ hs (letter "C" fs false refl w e)))) (λ e.
    all_if (is w (bytes "A")) (λ e. all_next a_number fs (λ n gs. all_next a_number gs (λ c hs. all_next a_number hs (λ name is. all_next read_type is (λ t js. all_done _ js (letter "A" fs false refl w e)))))) (λ e.
    all_if (is w (bytes "O")) (λ e. all_next a_number fs (λ n gs. all_next a_number gs (λ c hs. all_done _ hs (letter "O" fs false refl w e)))) (λ e.
    all_if (is w (bytes "V")) (λ e. all_next a_number fs (λ n gs. all_next a_number gs (λ c hs. all_next read_value hs (λ v is. all_done _ is (letter "V" fs false refl w e))))) (λ e.
    all_if (is w (bytes "D")) (λ e. all_next a_number fs (λ n gs. all_next a_number gs (λ c hs. all_next read_type hs (λ t is. all_done _ is (letter "D" fs false refl w e))))) (λ e.
    all_if (is w (bytes "R")) (λ e. all_next a_number fs (λ n gs. all_next a_number gs (λ c hs. all_done _ hs (letter "R" fs false refl w e)))) (λ e.
    all_if (is w (bytes "N")) (λ e. all_next a_number fs (λ n gs. all_next a_word gs (λ form hs. all_map (node_line n) (all_self (shape_of form hs)) (λ x q. letter "N" fs true refl w e)))) (λ e.
    all_if (is w (bytes "X")) (λ e. all_next a_word fs (λ x gs. all_done _ gs (letter "X" fs true refl w e))) (λ e. all_none))))))))

pub line_stays : (fs : List Bytes) (x : Line) → line_of fs ≡ some x → of_body x ≡ in_body fs
line_stays fs x e = at_some (subst (All? (λ y. of_body y ≡ in_body fs)) e (line_of_body fs))
