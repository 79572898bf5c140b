-- `feed` meets its contract. What is left of the piece leads from the state now to the state after the piece. Assumes nothing.
use mathlib.Core.Path.{◌≡◌, sym, ◌∙◌}
use borrow.Author.Rules.{rules}
use Rattle.std.specs.Prelude.{Err}
use Rattle.load.specs.Reader.{reader_of}
use Rattle.load.proofs.Feeding.{going_start, still_refused, going_refused, going_on, going_over}
use Rattle.load.proofs.reader.feed.Goals as goal

pub returns-in_err-s : goal.returns-in_err-s
returns-in_err-s c = record {
  is = λ text e.
      let why : c.from_residual.result ≡ Err c.in_err-s.field-0.0 = search rules in
      rw why (still_refused text c.args.piece.now (sym c.in_err-s.was ∙ e));
}

pub loop-b-init : goal.loop-b-init
loop-b-init c = λ text e. going_start text c.args.piece.now e

pub returns-in_err-state : goal.returns-in_err-state
unfolding reader_of
returns-in_err-state c = record {
  is = λ text e.
      let why : c.from_residual-in_err-state.result ≡ Err c.in_err-state.field-0.0 = search rules in
      rw why (going_refused c.args.piece.now c.loop-b.b-index c.loop-b-test.true (c.loop-b.invariant text (rw c.tally_of.ensures (sym c.in_ok-s.was ∙ e))) c.in_err-state.ensures);
}

pub loop-b-preserved : goal.loop-b-preserved
loop-b-preserved c = λ text e. going_on c.args.piece.now c.loop-b.b-index c.loop-b-test.true (c.loop-b.invariant text e) c.in_ok-state.ensures

pub returns : goal.returns
unfolding reader_of
returns c = record { is = λ text e. rw c.with_ring.ensures (going_over c.args.piece.now c.loop-b.b-index c.loop-b-test.false (c.loop-b.invariant text (rw c.tally_of.ensures (sym c.in_ok-s.was ∙ e)))) }
