-- The two checks stand in the definition's order.
use borrow.Author.Tests.{ne_eqb, lt-ltb, le-ltb}
use Rattle.verdict.specs.File.{counting}
use Rattle.verdict.proofs.Checks.{counting-some}
use Rattle.verdict.proofs.count_records.Goals as goal

pub returns-then-size-eq0 : goal.returns-then-size-eq0
unfolding counting
returns-then-size-eq0 c = rw c.if-size-eq0.true

pub returns-then-file-size-ne0 : goal.returns-then-file-size-ne0
returns-then-file-size-ne0 c = rw (c.at.ensures, counting-some _ c.args.most c.args.file.now c.if-size-eq0.false, ne_eqb _ 0 c.if-file-size-ne0.true)

pub returns-then-most-count : goal.returns-then-most-count
returns-then-most-count c =
    rw (c.at-then-most-count.ensures, counting-some _ c.args.most c.args.file.now c.if-size-eq0.false, c.if-file-size-ne0.false, lt-ltb _ _ c.if-most-count.true)

pub returns : goal.returns
returns c = rw (counting-some _ c.args.most c.args.file.now c.if-size-eq0.false, c.if-file-size-ne0.false, le-ltb _ _ c.if-most-count.false)
