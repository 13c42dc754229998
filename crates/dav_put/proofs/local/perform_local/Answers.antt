use Rattle.dav_upload_laws.specs.Written.{finds_as_written}
use Rattle.dav_put.proofs.Performed.{swept_of}
use Rattle.dav_put.proofs.local.perform_local.Goals as goal

pub returns-clause-whole : goal.returns-clause-whole
returns-clause-whole g c = λ target is plain v w bytes was now told clear.
    c.perform.ensures.whole target is (λ s. finds_as_written s.ways) c.local_stores_take_uploads.ensures.takes plain v w bytes was now told clear

pub returns-clause-unseen : goal.returns-clause-unseen
returns-clause-unseen g c = λ dir older is plain v w was now clear.
    c.perform.ensures.unseen dir older is (λ s. finds_as_written s.ways) c.local_stores_take_uploads.ensures.takes c.local_stores_take_uploads.ensures.leads plain v w was now clear

pub returns-clause-swept : goal.returns-clause-swept
returns-clause-swept g c = λ dir older is plain v w was now names clear.
    (let (r, sweeps, ended) = swept_of _ _ _ tt _ dir older _ _ _ _ _ _ is c.perform.ensures.table in
    (r, c.local_sweeps_take_what_was_left_before.ensures.swept dir _ _ _ v w r was now plain names clear sweeps, ended))

pub returns-clause-others : goal.returns-clause-others
returns-clause-others g c = λ shown dir older is plain v w was now names clear.
    (let (r, sweeps, ended) = swept_of _ _ _ tt _ dir older _ _ _ _ _ _ is c.perform.ensures.table in
    c.local_sweeps_take_what_was_left_before.ensures.others shown dir _ _ _ v w r was now plain names clear sweeps)

pub returns-clause-failed : goal.returns-clause-failed
returns-clause-failed g c = c.perform.ensures.failed c.local_stores_refuse_few.ensures
