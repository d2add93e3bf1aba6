-- The digits of a number are those of its tenth and one digit more.
-- The measure is the number, which a tenth is below. Assumes nothing.
use Rattle.report.proofs.page.Page.+decimal.Given as goal

abbrev pub decreases-decimal : goal.decreases-decimal
decreases-decimal l = l.n
