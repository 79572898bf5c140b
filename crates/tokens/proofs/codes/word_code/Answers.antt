-- `word_code` meets its contract. Each length by the words that have it. Assumes nothing.
use mathlib.Core.Path.{refl}
use Rattle.sheet.specs.Text.{bytes}
use Rattle.text.proofs.FormLaws.{of_length, rows, rows_of}
use Rattle.tokens.specs.Codes.{codes}
use Rattle.tokens.proofs.LengthLaws.{word_length, no_length}
use Rattle.tokens.proofs.codes.word_code.Goals as goal

pub returns-in-2 : goal.returns-in-2
unfolding of_length rows codes rows_of bytes
returns-in-2 c = word_length _ _ _ _ c.in-2.is refl c.among.ensures

pub returns-in-3 : goal.returns-in-3
unfolding of_length rows codes rows_of bytes
returns-in-3 c = word_length _ _ _ _ c.in-3.is refl c.among-in-3.ensures

pub returns-in-4 : goal.returns-in-4
unfolding of_length rows codes rows_of bytes
returns-in-4 c = word_length _ _ _ _ c.in-4.is refl c.among-in-4.ensures

pub returns-in-5 : goal.returns-in-5
unfolding of_length rows codes rows_of bytes
returns-in-5 c = word_length _ _ _ _ c.in-5.is refl c.among-in-5.ensures

pub returns-in-6 : goal.returns-in-6
unfolding of_length rows codes rows_of bytes
returns-in-6 c = word_length _ _ _ _ c.in-6.is refl c.among-in-6.ensures

pub returns-in-7 : goal.returns-in-7
unfolding of_length rows codes rows_of bytes
returns-in-7 c = word_length _ _ _ _ c.in-7.is refl c.among-in-7.ensures

pub returns-in-8 : goal.returns-in-8
unfolding of_length rows codes rows_of bytes
returns-in-8 c = word_length _ _ _ _ c.in-8.is refl c.among-in-8.ensures

pub returns-in-9 : goal.returns-in-9
unfolding of_length rows codes rows_of bytes
returns-in-9 c = word_length _ _ _ _ c.in-9.is refl c.among-in-9.ensures

pub returns-in-10 : goal.returns-in-10
unfolding of_length rows codes rows_of bytes
returns-in-10 c = word_length _ _ _ _ c.in-10.is refl c.among-in-10.ensures

pub returns-in-12 : goal.returns-in-12
unfolding of_length rows codes rows_of bytes
returns-in-12 c = word_length _ _ _ _ c.in-12.is refl c.among-in-12.ensures

pub returns-in_default : goal.returns-in_default
returns-in_default c = search no_length
