-- The numbers answered (document 01, "Numbers answered"). src/numbers.rt has the same names.
-- Assumes nothing.
use Rattle.std.specs.Prelude.{ℕ}

abbrev pub done : ℕ
done = 0

abbrev pub table_length : ℕ
table_length = 1

abbrev pub cores : ℕ
cores = 2

abbrev pub row_range : ℕ
row_range = 3

abbrev pub blocked : ℕ
blocked = 4

abbrev pub malformed : ℕ
malformed = 5

abbrev pub order_fails : ℕ
order_fails = 6

abbrev pub unsound : ℕ
unsound = 7

abbrev pub short_output : ℕ
short_output = 8

abbrev pub book_length : ℕ
book_length = 9

abbrev pub block_number : ℕ
block_number = 10

abbrev pub block_check : ℕ
block_check = 11

abbrev pub edition : ℕ
edition = 12

abbrev pub book_field : ℕ
book_field = 13

abbrev pub member_passes : ℕ
member_passes = 14

abbrev pub unfinished : ℕ
unfinished = 15

abbrev pub policy : ℕ
policy = 16
