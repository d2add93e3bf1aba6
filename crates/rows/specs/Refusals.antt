-- What a refusal answers: its number, and the row or the block at fault (document 01, "Numbers answered").
-- Assumes nothing.
use Rattle.std.specs.Prelude.{ℕ}
use Rattle.rows.specs.Numbers.{table_length, cores, row_range, malformed, unsound, short_output, book_length, block_number, block_check, edition, book_field, policy}
use Rattle.rows.specs.declared.refusal.Refusal.{Refusal}
use Rattle.rows.specs.declared.refusal.Refusal.TheVariants.{TableLength, Cores, RowRange, Malformed, Unsound, ShortOutput, BookLength, BlockNumber, BlockCheck, Edition, BookField, Policy}

abbrev pub refusal_number : Refusal → ℕ
refusal_number TableLength = table_length
refusal_number Cores = cores
refusal_number (RowRange row) = row_range
refusal_number Malformed = malformed
refusal_number Unsound = unsound
refusal_number ShortOutput = short_output
refusal_number BookLength = book_length
refusal_number (BlockNumber block) = block_number
refusal_number (BlockCheck block) = block_check
refusal_number Edition = edition
refusal_number BookField = book_field
refusal_number Policy = policy

-- the row at fault; 0 of a refusal that names none
abbrev pub refusal_row : Refusal → ℕ
refusal_row TableLength = 0
refusal_row Cores = 0
refusal_row (RowRange row) = row
refusal_row Malformed = 0
refusal_row Unsound = 0
refusal_row ShortOutput = 0
refusal_row BookLength = 0
refusal_row (BlockNumber block) = 0
refusal_row (BlockCheck block) = 0
refusal_row Edition = 0
refusal_row BookField = 0
refusal_row Policy = 0

-- the block at fault; 0 of a refusal that names none
abbrev pub refusal_block : Refusal → ℕ
refusal_block TableLength = 0
refusal_block Cores = 0
refusal_block (RowRange row) = 0
refusal_block Malformed = 0
refusal_block Unsound = 0
refusal_block ShortOutput = 0
refusal_block BookLength = 0
refusal_block (BlockNumber block) = block
refusal_block (BlockCheck block) = block
refusal_block Edition = 0
refusal_block BookField = 0
refusal_block Policy = 0
