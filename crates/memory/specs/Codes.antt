-- The code of each form, as word 0 of a node holds it: the names and numbers of src/codes.rt. Forms of one family have neighbouring codes.
use Rattle.std.specs.Prelude.{ℕ}

-- leaves
abbrev pub false : ℕ
false = 0

abbrev pub true : ℕ
true = 1

abbrev pub undef : ℕ
undef = 2

abbrev pub number : ℕ
number = 3

abbrev pub self : ℕ
self = 4

abbrev pub var : ℕ
var = 5

abbrev pub all : ℕ
all = 6

-- unary forms
abbrev pub negation : ℕ
negation = 7

abbrev pub size_of : ℕ
size_of = 8

abbrev pub to_set : ℕ
to_set = 9

abbrev pub to_sequence : ℕ
to_sequence = 10

abbrev pub to_bag : ℕ
to_bag = 11

abbrev pub cast_to : ℕ
cast_to = 12

-- binary forms, and `over` below
abbrev pub equal : ℕ
equal = 13

abbrev pub less : ℕ
less = 14

abbrev pub plus : ℕ
plus = 15

abbrev pub minus : ℕ
minus = 16

abbrev pub times : ℕ
times = 17

abbrev pub div : ℕ
div = 18

abbrev pub modulo : ℕ
modulo = 19

abbrev pub includes : ℕ
includes = 20

abbrev pub including : ℕ
including = 21

abbrev pub union : ℕ
union = 22

-- connectives
abbrev pub and : ℕ
and = 23

abbrev pub or : ℕ
or = 24

-- quantifiers
abbrev pub for_all : ℕ
for_all = 25

abbrev pub exists : ℕ
exists = 26

-- collections that are written out
abbrev pub set : ℕ
set = 27

abbrev pub sequence : ℕ
sequence = 28

abbrev pub bag : ℕ
bag = 29

-- forms without a family
abbrev pub is_undef : ℕ
is_undef = 30

abbrev pub conditional : ℕ
conditional = 31

abbrev pub let_in : ℕ
let_in = 32

-- `attr` and `collect`: a row of one object, and of each member of a collection
abbrev pub of_object : ℕ
of_object = 33

abbrev pub of_members : ℕ
of_members = 34

-- forms that came later
abbrev pub iterate : ℕ
iterate = 35

abbrev pub call : ℕ
call = 36

abbrev pub over : ℕ
over = 37

-- the word `real`, whose node has the code of `number`; and any word that names no form
abbrev pub real : ℕ
real = 38

abbrev pub no_form : ℕ
no_form = 99
