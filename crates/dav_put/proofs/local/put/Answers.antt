use Rattle.std.proofs.Common.{ap, sym, subst, ◌∙◌}
use Rattle.dav_upload_laws.specs.Swept.{SweptBefore}
use Rattle.dav_upload_laws.specs.Written.{finds_as_written}
use Rattle.dav_put.specs.Performs.{limit_of}
use Rattle.dav_put.proofs.local.put.Goals as goal

pub returns-clause-table : goal.returns-clause-table
returns-clause-table g c = (c.perform_local-ending.new.fs, rw c.new-fs.ensures at c.perform_local-ending.ensures.table, sym (ap (λ p. p.0) c.into_parts-disk.ensures))

pub returns-clause-unseen : goal.returns-clause-unseen
returns-clause-unseen g c = λ dir older is v w was now clear.
    c.perform_local-ending.ensures.unseen dir older is (ap (λ s. finds_as_written s.ways) c.new-fs.ensures) v w
    (ap (λ s. (g.D.Disk.state s.disk).told) c.new-fs.ensures ∙ was) (ap (λ p. (g.D.Disk.state p.0).told) (sym c.into_parts-disk.ensures) ∙ now) clear

pub returns-clause-swept : goal.returns-clause-swept
returns-clause-swept g c = λ dir older is v w was now names clear.
    (let (r, swept, ended) = c.perform_local-ending.ensures.swept dir older is (ap (λ s. finds_as_written s.ways) c.new-fs.ensures) v w
    (ap (λ s. (g.D.Disk.state s.disk).told) c.new-fs.ensures ∙ was) (ap (λ p. (g.D.Disk.state p.0).told) (sym c.into_parts-disk.ensures) ∙ now) names clear in (
      r,
      subst (λ n. SweptBefore dir.names (limit_of c.args.moment older) r (g.D.Disk.state c.args.disk).faults n v w) (ap (λ p. (g.D.Disk.state p.0).faults) (sym c.into_parts-disk.ensures))
          (subst (λ n. SweptBefore dir.names (limit_of c.args.moment older) r n (g.D.Disk.state c.perform_local-ending.new.fs.disk).faults v w) (ap (λ s. (g.D.Disk.state s.disk).faults) c.new-fs.ensures) swept),
      ended,
    ))
