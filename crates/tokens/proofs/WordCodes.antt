-- The words that the parser asks for, by their codes. Assumes nothing.
use mathlib.Core.Path.{◌≡◌, refl}
use native.Mathlib.Omega.{arith}
use lib.Dec.{eqb}
use Rattle.sheet.specs.Text.{Bytes, bytes}
use Rattle.sheet.specs.Lines.{is}
use Rattle.sheet.specs.Grammar.Tokens.{Tokens}
use Rattle.sheet.specs.Grammar.Words.{named}
use Rattle.sheet.specs.Grammar.Parser.{after}
use Rattle.tokens.specs.Codes.{codes, or_code, code_of, after_code}
use Rattle.tokens.proofs.CodeLaws.{word_told, after_told}

-- ---- what follows a word

module _ (s : Tokens) where
  pub after_let : after "let" s ≡ after_code 32 s
  unfolding code_of or_code named codes is bytes
  after_let = after_told "let" s refl (λ e. omega arith)

  pub after_equals : after "=" s ≡ after_code 13 s
  unfolding code_of or_code named codes is bytes
  after_equals = after_told "=" s refl (λ e. omega arith)

  pub after_in : after "in" s ≡ after_code 50 s
  unfolding code_of or_code named codes is bytes
  after_in = after_told "in" s refl (λ e. omega arith)

  pub after_close : after ")" s ≡ after_code 41 s
  unfolding code_of or_code named codes is bytes
  after_close = after_told ")" s refl (λ e. omega arith)

  pub after_close_brace : after "}" s ≡ after_code 43 s
  unfolding code_of or_code named codes is bytes
  after_close_brace = after_told "}" s refl (λ e. omega arith)

  pub after_bracket : after "(" s ≡ after_code 40 s
  unfolding code_of or_code named codes is bytes
  after_bracket = after_told "(" s refl (λ e. omega arith)

  pub after_dot : after "." s ≡ after_code 48 s
  unfolding code_of or_code named codes is bytes
  after_dot = after_told "." s refl (λ e. omega arith)

  pub after_all : after "allInstances" s ≡ after_code 6 s
  unfolding code_of or_code named codes is bytes
  after_all = after_told "allInstances" s refl (λ e. omega arith)

  pub after_brace : after "{" s ≡ after_code 42 s
  unfolding code_of or_code named codes is bytes
  after_brace = after_told "{" s refl (λ e. omega arith)

  pub after_then : after "then" s ≡ after_code 51 s
  unfolding code_of or_code named codes is bytes
  after_then = after_told "then" s refl (λ e. omega arith)

  pub after_else : after "else" s ≡ after_code 52 s
  unfolding code_of or_code named codes is bytes
  after_else = after_told "else" s refl (λ e. omega arith)

  pub after_endif : after "endif" s ≡ after_code 53 s
  unfolding code_of or_code named codes is bytes
  after_endif = after_told "endif" s refl (λ e. omega arith)

  pub after_comma : after "," s ≡ after_code 44 s
  unfolding code_of or_code named codes is bytes
  after_comma = after_told "," s refl (λ e. omega arith)

  pub after_not : after "not" s ≡ after_code 7 s
  unfolding code_of or_code named codes is bytes
  after_not = after_told "not" s refl (λ e. omega arith)

  pub after_semicolon : after ";" s ≡ after_code 45 s
  unfolding code_of or_code named codes is bytes
  after_semicolon = after_told ";" s refl (λ e. omega arith)

  pub after_colon : after ":" s ≡ after_code 46 s
  unfolding code_of or_code named codes is bytes
  after_colon = after_told ":" s refl (λ e. omega arith)

  pub after_bar : after "|" s ≡ after_code 47 s
  unfolding code_of or_code named codes is bytes
  after_bar = after_told "|" s refl (λ e. omega arith)

-- ---- is a token the word

module _ (w : Bytes) where
  pub is_bracket : is w (bytes "(") ≡ eqb (code_of w) 40
  unfolding code_of or_code named codes is bytes
  is_bracket = word_told w (bytes "(") refl (λ e. omega arith)

  pub is_brace : is w (bytes "{") ≡ eqb (code_of w) 42
  unfolding code_of or_code named codes is bytes
  is_brace = word_told w (bytes "{") refl (λ e. omega arith)

  pub is_if : is w (bytes "if") ≡ eqb (code_of w) 31
  unfolding code_of or_code named codes is bytes
  is_if = word_told w (bytes "if") refl (λ e. omega arith)

  pub is_close : is w (bytes ")") ≡ eqb (code_of w) 41
  unfolding code_of or_code named codes is bytes
  is_close = word_told w (bytes ")") refl (λ e. omega arith)

  pub is_close_brace : is w (bytes "}") ≡ eqb (code_of w) 43
  unfolding code_of or_code named codes is bytes
  is_close_brace = word_told w (bytes "}") refl (λ e. omega arith)

  pub is_endif : is w (bytes "endif") ≡ eqb (code_of w) 53
  unfolding code_of or_code named codes is bytes
  is_endif = word_told w (bytes "endif") refl (λ e. omega arith)

  pub is_dot : is w (bytes ".") ≡ eqb (code_of w) 48
  unfolding code_of or_code named codes is bytes
  is_dot = word_told w (bytes ".") refl (λ e. omega arith)

  pub is_arrow : is w (bytes "->") ≡ eqb (code_of w) 49
  unfolding code_of or_code named codes is bytes
  is_arrow = word_told w (bytes "->") refl (λ e. omega arith)

  pub is_undef_lem : is w (bytes "isUndef") ≡ eqb (code_of w) 30
  unfolding code_of or_code named codes is bytes
  is_undef_lem = word_told w (bytes "isUndef") refl (λ e. omega arith)

  pub is_cast : is w (bytes "oclAsType") ≡ eqb (code_of w) 12
  unfolding code_of or_code named codes is bytes
  is_cast = word_told w (bytes "oclAsType") refl (λ e. omega arith)

  pub is_iter : is w (bytes "iter") ≡ eqb (code_of w) 35
  unfolding code_of or_code named codes is bytes
  is_iter = word_told w (bytes "iter") refl (λ e. omega arith)

  pub is_collect : is w (bytes "collect") ≡ eqb (code_of w) 34
  unfolding code_of or_code named codes is bytes
  is_collect = word_told w (bytes "collect") refl (λ e. omega arith)
