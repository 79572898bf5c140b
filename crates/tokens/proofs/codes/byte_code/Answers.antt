-- `byte_code` meets its contract. Each arm by its row of the table. Assumes nothing.
use Rattle.sheet.specs.Text.{bytes}
use Rattle.sheet.specs.Lines.{is}
use Rattle.sheet.specs.Grammar.Words.{named}
use Rattle.tokens.specs.Codes.{codes, or_code, code_of}
use Rattle.tokens.proofs.LengthLaws.{byte_other}
use Rattle.tokens.proofs.codes.byte_code.Goals as goal

pub returns-in-61 : goal.returns-in-61
unfolding code_of or_code named codes is bytes
returns-in-61 c = rw c.in-61.is

pub returns-in-60 : goal.returns-in-60
unfolding code_of or_code named codes is bytes
returns-in-60 c = rw c.in-60.is

pub returns-in-43 : goal.returns-in-43
unfolding code_of or_code named codes is bytes
returns-in-43 c = rw c.in-43.is

pub returns-in-45 : goal.returns-in-45
unfolding code_of or_code named codes is bytes
returns-in-45 c = rw c.in-45.is

pub returns-in-42 : goal.returns-in-42
unfolding code_of or_code named codes is bytes
returns-in-42 c = rw c.in-42.is

pub returns-in-47 : goal.returns-in-47
unfolding code_of or_code named codes is bytes
returns-in-47 c = rw c.in-47.is

pub returns-in-40 : goal.returns-in-40
unfolding code_of or_code named codes is bytes
returns-in-40 c = rw c.in-40.is

pub returns-in-41 : goal.returns-in-41
unfolding code_of or_code named codes is bytes
returns-in-41 c = rw c.in-41.is

pub returns-in-123 : goal.returns-in-123
unfolding code_of or_code named codes is bytes
returns-in-123 c = rw c.in-123.is

pub returns-in-125 : goal.returns-in-125
unfolding code_of or_code named codes is bytes
returns-in-125 c = rw c.in-125.is

pub returns-in-44 : goal.returns-in-44
unfolding code_of or_code named codes is bytes
returns-in-44 c = rw c.in-44.is

pub returns-in-59 : goal.returns-in-59
unfolding code_of or_code named codes is bytes
returns-in-59 c = rw c.in-59.is

pub returns-in-58 : goal.returns-in-58
unfolding code_of or_code named codes is bytes
returns-in-58 c = rw c.in-58.is

pub returns-in-124 : goal.returns-in-124
unfolding code_of or_code named codes is bytes
returns-in-124 c = rw c.in-124.is

pub returns-in-46 : goal.returns-in-46
unfolding code_of or_code named codes is bytes
returns-in-46 c = rw c.in-46.is

pub returns-in-83 : goal.returns-in-83
unfolding code_of or_code named codes is bytes
returns-in-83 c = rw c.in-83.is

pub returns-in-81 : goal.returns-in-81
unfolding code_of or_code named codes is bytes
returns-in-81 c = rw c.in-81.is

pub returns-in-66 : goal.returns-in-66
unfolding code_of or_code named codes is bytes
returns-in-66 c = rw c.in-66.is

pub returns-in-67 : goal.returns-in-67
unfolding code_of or_code named codes is bytes
returns-in-67 c = rw c.in-67.is

pub returns-in_default : goal.returns-in_default
returns-in_default c = let r = c.in_default.in_default-own.rest in byte_other _ r.0.0.0.0.0.0.0.0.0.0.0.0.0.0.0.0.0.0.1 r.0.0.0.0.0.0.0.0.0.0.0.0.0.0.0.0.0.1 r.0.0.0.0.0.0.0.0.0.0.0.0.0.0.0.0.1 r.0.0.0.0.0.0.0.0.0.0.0.0.0.0.0.1 r.0.0.0.0.0.0.0.0.0.0.0.0.0.0.1 r.0.0.0.0.0.0.0.0.0.0.0.0.0.1 r.0.0.0.0.0.0.0.0.0.0.0.0.1 r.0.0.0.0.0.0.0.0.0.0.0.1 r.0.0.0.0.0.0.0.0.0.0.1 r.0.0.0.0.0.0.0.0.0.1 r.0.0.0.0.0.0.0.0.1 r.0.0.0.0.0.0.0.1 r.0.0.0.0.0.0.1 r.0.0.0.0.0.1 r.0.0.0.0.1 r.0.0.0.1 r.0.0.1 r.0.1 r.1
