-- The forms that look at no model go with one another from their operands on. Assumes nothing.
use mathlib.Core.Path.{refl, sym, ap, ◌∙◌, subst}
use mathlib.Core.Bool.{true, false, beq}
use Prim.Native.Nat.{ℕ}
use Rattle.ocl.specs.Types.{Kind}
use Rattle.ocl.specs.Values.{Values, nil, add, add_all}
use Rattle.ocl.specs.Environment.{extend}
use Rattle.ocl.specs.Forms.{Connective, Quantifier}
use Rattle.ocl.specs.Evaluation.{Run, decides, connective_run, is_undef_run, conditional_run, let_run, quantified_run, Gather, no_operand_run, operand_run, assemble_run}
use Rattle.ocl.specs.Laws.{Member}
use Rattle.profile.specs.Renumbering.{renumbered}
use Rattle.profile.proofs.Through.{each, changed_kept, each_add}
use Rattle.profile.proofs.Images.{FitAll, fit_members, fit_kept, image_kept, member_to, member_from, every_member, member_gathered, gathered_member}
use Rattle.profile.proofs.Searches.{searched, found_alike, match_undefined}
use Rattle.profile.proofs.Matches.{fit_add, fit_none, Gathered, match_bind, match_resume, match_if, match_truth, match_bool, match_coll, match_form, Follows, extend_related}

-- members so far, and their images
pub record Gathers (to : ℕ → ℕ) (g h : Gather) : Type 0 where
  pub runs : (k : Kind) (vs ws : Values) → FitAll k vs → Gathered to k vs ws → Follows to (g k vs) (h k ws)

module _ {to : ℕ → ℕ} where
  pub connective_follows : (c : Connective) {f g f' g' : Run} → Follows to f f' → Follows to g g' → Follows to (connective_run c f g) (connective_run c f' g')
  unfolding connective_run
  connective_follows c hf hg = record {
    run = λ ρ σ r n m. match_resume (hf.run ρ σ r n m)
        (λ v v' i j a e. match_bool v v' e (λ b. match_if (beq b (decides c)) (match_truth b b refl)
        (match_bind (hg.run ρ σ r i j) (λ w w' x y h d. match_bool w w' d (λ z. match_truth z z refl)))))
        (λ i j. match_bind (hg.run ρ σ r i j) (λ w w' x y h d. match_bool w w' d (λ z. match_if (beq z (decides c)) (match_truth z z refl) match_undefined)));
  }

  pub is_undef_follows : {f g : Run} → Follows to f g → Follows to (is_undef_run f) (is_undef_run g)
  unfolding is_undef_run
  is_undef_follows h = record { run = λ ρ σ r n m. match_resume (h.run ρ σ r n m) (λ v w i j f e. match_truth false false refl) (λ i j. match_truth true true refl) }

  pub conditional_follows : {f g h f' g' h' : Run} → Follows to f f' → Follows to g g' → Follows to h h' → Follows to (conditional_run f g h) (conditional_run f' g' h')
  unfolding conditional_run
  conditional_follows hf hg hh = record {
    run = λ ρ σ r n m. match_bind (hf.run ρ σ r n m) (λ v w i j a e. match_bool v w e (λ b. match_if b (hg.run ρ σ r i j) (hh.run ρ σ r i j)));
  }

  pub let_follows : (i : ℕ) {f g f' g' : Run} → Follows to f f' → Follows to g g' → Follows to (let_run i f g) (let_run i f' g')
  unfolding let_run
  let_follows i hf hg = record { run = λ ρ σ r n m. match_bind (hf.run ρ σ r n m) (λ v w x y a e. hg.run (extend ρ i v) (extend σ i w) (extend_related i v w r a e) x y) }

  pub quantified_follows : (q : Quantifier) (i : ℕ) {f g f' g' : Run} → Follows to f f' → Follows to g g' → Follows to (quantified_run q i f g) (quantified_run q i f' g')
  unfolding quantified_run
  quantified_follows q i {f} {g} {f'} {g'} hf hg = record {
    run = λ ρ σ r n m. match_bind (hf.run ρ σ r n m) (λ v w x y a e. match_coll v w a e (λ k vs ws h d.
        let c = (fit_members h).each_fit in
        let images = changed_kept (renumbered to) (image_kept to) (fit_kept c) in
        found_alike to q (λ z. g (extend ρ i z)) (λ z. g' (extend σ i z)) vs ws
        (λ z b u l. hg.run (extend ρ i z) (extend σ i (renumbered to z)) (extend_related i z (renumbered to z) r (every_member c b) refl) u l)
        (λ z b. subst (λ us. Member (renumbered to z) us) (sym d) (member_gathered k images (member_to (renumbered to) b)))
        (λ z b. member_from (renumbered to) z vs (gathered_member k images (subst (λ us. Member z us) d b)))
        (searched q (λ z. g (extend ρ i z)) false vs x) (searched q (λ z. g' (extend σ i z)) false ws y)));
  }

  -- ---- `coll`

  pub no_operand_gathers : Gathers to no_operand_run no_operand_run
  unfolding no_operand_run
  no_operand_gathers = record { runs = λ k vs ws f e. record { run = λ ρ σ r n m. match_form k vs ws n m f e } }

  pub operand_gathers : {f f' : Run} {g g' : Gather} → Follows to f f' → Gathers to g g' → Gathers to (operand_run f g) (operand_run f' g')
  unfolding operand_run
  operand_gathers hf hg = record {
    runs = λ k vs ws a e. record {
      run = λ ρ σ r n m. match_bind (hf.run ρ σ r n m) (λ v w x y b d.
          (hg.runs k (add k v vs) (add k w ws) (fit_add k v b a)
          (ap (λ z. add k z ws) d ∙ ap (add k (renumbered to v)) e ∙ sym (each_add (renumbered to) (image_kept to) k v b.numbers_kept_lem (fit_kept a.each_fit)))).run ρ σ r x y);
    };
  }

  pub assemble_follows : (k : Kind) {g h : Gather} → Gathers to g h → Follows to (assemble_run k g) (assemble_run k h)
  unfolding assemble_run each add_all
  assemble_follows k h = record { run = λ ρ σ r n m. (h.runs k nil nil fit_none refl).run ρ σ r n m }
