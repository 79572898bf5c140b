-- Document 02, F-7, rules in OCL text: words, the grammar, a parser, and what is proved of them. Nothing here knows of lines or sheets but the
-- spelling of numbers and, for the nodes of a tree, the forms of node lines.
pub mod Tokens
pub mod Trees
pub mod Words
pub mod Sentences
pub mod Parser
pub mod Laws
