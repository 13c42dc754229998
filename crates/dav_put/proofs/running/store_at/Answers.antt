use Rattle.std.proofs.Common.{◌≢◌, [], Err, inr, refl, rules, subst}
use Rattle.dav_put.specs.Whole.{StoredWhole}
use Rattle.dav_put.proofs.Ended.{ends_as}
use Rattle.dav_put.proofs.running.store_at.Goals as goal

pub returns-in-Ok-clause-table : goal.returns-in-Ok-clause-table
returns-in-Ok-clause-table g c =
    let named : c.args.path.now.names ≢ [] = search rules in
    inr (named, _, rw c.new-fields.ensures at c.in-Ok.ensures.table, refl)

pub returns-in-Err-SourceFailed-clause-table : goal.returns-in-Err-SourceFailed-clause-table
returns-in-Err-SourceFailed-clause-table g c =
    let named : c.args.path.now.names ≢ [] = search rules in
    inr (named, _, rw (c.in-Err-SourceFailed.field-0-is, c.new-fields.ensures) at c.in-Err-SourceFailed.ensures.table, refl)

pub returns-in-Err-TooMuch-clause-table : goal.returns-in-Err-TooMuch-clause-table
returns-in-Err-TooMuch-clause-table g c =
    let named : c.args.path.now.names ≢ [] = search rules in
    inr (named, _, rw (c.in-Err-TooMuch.field-0-is, c.new-fields.ensures) at c.in-Err-TooMuch.ensures.table, refl)

pub returns-clause-table : goal.returns-clause-table
returns-clause-table g c =
    let named : c.args.path.now.names ≢ [] = search rules in
    inr (named, _, rw (c.in-Err-Refused.field-0-is, c.new-fields.ensures) at c.in-Err-Refused.ensures.table, c.ended_by.ensures)

pub returns-in-Err-SourceFailed-clause-whole : goal.returns-in-Err-SourceFailed-clause-whole
returns-in-Err-SourceFailed-clause-whole g c = λ test takes plain v w bytes was now told clear.
    subst (λ z. StoredWhole c.args.path.now.names bytes (Err z) v w) c.in-Err-SourceFailed.field-0-is
    (c.in-Err-SourceFailed.ensures.whole test takes plain v w bytes was now told clear)

pub returns-in-Err-TooMuch-clause-whole : goal.returns-in-Err-TooMuch-clause-whole
returns-in-Err-TooMuch-clause-whole g c = λ test takes plain v w bytes was now told clear.
    subst (λ z. StoredWhole c.args.path.now.names bytes (Err z) v w) c.in-Err-TooMuch.field-0-is
    (c.in-Err-TooMuch.ensures.whole test takes plain v w bytes was now told clear)

pub returns-clause-whole : goal.returns-clause-whole
returns-clause-whole g c = λ test takes plain v w bytes was now told clear.
    ends_as _ c.ended_by.result c.args.path.now.names bytes v w c.ended_by.ensures
    (subst (λ z. StoredWhole c.args.path.now.names bytes (Err z) v w) c.in-Err-Refused.field-0-is
    (c.in-Err-Refused.ensures.whole test takes plain v w bytes was now told clear))
