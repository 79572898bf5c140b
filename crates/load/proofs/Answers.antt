-- What is printed where a text ends. Assumes nothing.
use Prim.Native.Nat.{ℕ, ◌-◌, ◌<◌, ◌≤◌}
use mathlib.Core.Path.{◌≡◌, sym, ap, ◌∙◌}
use mathlib.Core.Bool.{true, false, true≢false}
use mathlib.Core.Option.{Option, none, some, none-ne-some, some-injective}
use mathlib.Core.List.{[], ◌∷◌, ◌++◌}
use native.Mathlib.Omega.{arith}
use native.Mathlib.Decide.{dec_lt}
use lib.ListN.{length}
use Rattle.std.specs.Prelude.{Result, Ok, Err}
use Rattle.sheet.specs.Text.{Bytes, bytes, spell_number}
use Rattle.sheet.specs.Calls.{answer, refusal, refusal_at}
use Rattle.sheet.specs.Report.{printed}
use Rattle.text.specs.Written.{Puts}
use Rattle.load.specs.Windows.{load}
use Rattle.load.specs.Reading.{Run, on_load, at_end, read_last, program}
use Rattle.load.specs.Record.{total_of, first_of, window_of, empty_window}
use Rattle.load.specs.Reader.{line_from, line_of, is_empty, Progress, refused, reading, line_at, progress_of, window_for, state_of, reader_of, Fits, fits_none, fits_some, Prints}
use Rattle.load.specs.declared.reader.Reader.{Reader}
use Rattle.load.specs.declared.refusal.Refused.{Refused}
use Rattle.load.specs.Refusals.{number_of, refusal_of}
use Rattle.load.specs.declared.window.Window.{Window}
use Rattle.load.proofs.Windows.{best_numbered, load_none, load_some}
use Rattle.load.proofs.Lines.{empty_line}
use Rattle.load.proofs.Progress.{Sound, is_refused, is_reading, progress_sound, verdict_of, text_verdict}
use Rattle.load.proofs.Steps.{LineNumber, width_some}

-- what is printed is told by the state
abbrev Told : Result Reader Refused → Bytes → Bytes → ℕ → Type 0
Told s before after n = (p : Progress) → Sound p → s ≡ state_of p → Puts 0 (printed (verdict_of p)) before after n

told_prints : {s : Result Reader Refused} {before after : Bytes} {n : ℕ} → n ≤ length after → Told s before after n → Prints s before after n
unfolding reader_of program
told_prints room told = record { room = room; is = λ text e. rw (← text_verdict text) (told (progress_of text) (progress_sound text) e) }

abbrev reader : Result Reader Refused → Option Reader
reader (Ok s) = some s
reader (Err e) = none

abbrev refusal_in : Refused → Result Reader Refused → Refused
refusal_in d (Ok s) = d
refusal_in d (Err e) = e

module _ {before after : Bytes} {n : ℕ} (room : n ≤ length after) where
  refused_told : {e : Refused} → Puts 0 (printed (refusal_at (number_of e.why) e.place)) before after n → Told (Err e) before after n
  unfolding verdict_of state_of
  refused_told {e} f (refused c k) (is_refused h) is = let same : e ≡ record { why = refusal_of c; place = k } = ap (refusal_in e) is in rw h at (rw same at f)
  refused_told f (reading run l) (is_reading fit) is = absurd (none-ne-some _ (ap reader is))

  pub prints_refused : {e : Refused} → Puts 0 (printed (refusal_at (number_of e.why) e.place)) before after n → Prints (Err e) before after n
  prints_refused f = told_prints room (refused_told f)

  -- the state is that of a text that was read to its end
  module _ {s : Reader} where
    reading_told : ((run : Option Run) (l : Bytes) → Fits run → s.line ≡ line_of l → s.window ≡ window_for run → Puts 0 (printed (read_last (line_at run) run l)) before after n) → Told (Ok s) before after n
    unfolding verdict_of state_of
    reading_told f (refused c k) (is_refused h) is = absurd (none-ne-some _ (sym (ap reader is)))
    reading_told f (reading run l) (is_reading fit) is = let same : s ≡ record { line = line_of l; window = window_for run } = some-injective _ _ (ap reader is) in f run l fit (ap (λ (t : Reader). t.line) same) (ap (λ (t : Reader). t.window) same)

    -- a line without a line feed
    pub prints_begun : {place : ℕ} → is_empty s.line ≡ false → LineNumber s.window place → Puts 0 (printed (refusal_at 3 place)) before after n → Prints (Ok s) before after n
    unfolding read_last line_of line_from
    prints_begun {place} h at f = told_prints room (reading_told go)
      where
        go : (run : Option Run) (l : Bytes) → Fits run → s.line ≡ line_of l → s.window ≡ window_for run → Puts 0 (printed (read_last (line_at run) run l)) before after n
        go run [] fit e w = absurd (true≢false (sym (ap is_empty e) ∙ h))
        go run (b ∷ l) fit e w = rw (← at run fit w) f

    module _ (h : is_empty s.line ≡ true) where
      ended_told : ((run : Option Run) → Fits run → s.window ≡ window_for run → Puts 0 (printed (at_end (line_at run) run)) before after n) → Prints (Ok s) before after n
      unfolding read_last
      ended_told f = told_prints room (reading_told (λ run l fit e w. rw (empty_line l (sym (ap is_empty e) ∙ h)) (f run fit w)))

      -- no line
      pub prints_none : s.window.width ≡ 0 → Puts 0 (printed (refusal_at 3 1)) before after n → Prints (Ok s) before after n
      unfolding at_end line_at
      prints_none q f = ended_told go
        where
          go : (run : Option Run) → Fits run → s.window ≡ window_for run → Puts 0 (printed (at_end (line_at run) run)) before after n
          go none fits_none w = f
          go (some r) (fits_some fit) w = absurd (omega (arith, width_some s.window fit w))

      module _ (q : s.window.width ≡ 0 → ⊥) where
        run_told : ((r : Run) → s.window ≡ window_of r.window r.lengths → Puts 0 (printed (on_load (load r.window r.lengths))) before after n) → Prints (Ok s) before after n
        unfolding at_end window_for empty_window
        run_told f = ended_told go
          where
            go : (run : Option Run) → Fits run → s.window ≡ window_for run → Puts 0 (printed (at_end (line_at run) run)) before after n
            go none fits_none w = absurd (q (ap (λ (v : Window). v.width) w))
            go (some r) (fits_some fit) w = f r w

        -- fewer lengths than the window has
        pub prints_short : s.window.first ≡ 0 → Puts 0 (printed (refusal_at 25 0)) before after n → Prints (Ok s) before after n
        unfolding on_load window_of first_of refusal
        prints_short e f = run_told (λ r w. go r w (dec_lt (length r.lengths) r.window))
          where
            go : (r : Run) → s.window ≡ window_of r.window r.lengths → Dec (length r.lengths < r.window) → Puts 0 (printed (on_load (load r.window r.lengths))) before after n
            go r w (yes l) = rw (load_none r.window r.lengths 0 l) f
            go r w (no l) = absurd (omega (arith, best_numbered r.window r.lengths (length r.lengths - r.window), rw (load_some r.window r.lengths 0 (omega arith)) at (sym (ap (λ (v : Window). v.first) w) ∙ e)))

        -- the best run
        pub prints_load : (s.window.first ≡ 0 → ⊥) → Puts 0 (spell_number s.window.largest ++ (32 ∷ []) ++ spell_number s.window.first ++ (10 ∷ [])) before after n → Prints (Ok s) before after n
        unfolding on_load window_of first_of total_of printed answer bytes
        prints_load e f = run_told (λ r w. go r w (dec_lt (length r.lengths) r.window))
          where
            go : (r : Run) → s.window ≡ window_of r.window r.lengths → Dec (length r.lengths < r.window) → Puts 0 (printed (on_load (load r.window r.lengths))) before after n
            go r w (yes l) = absurd (e (ap (λ (v : Window). v.first) w ∙ rw (load_none r.window r.lengths 0 l)))
            go r w (no l) = rw (load_some r.window r.lengths 0 (omega arith)) (rw (w, load_some r.window r.lengths 0 (omega arith)) at f)
