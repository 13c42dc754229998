use Rattle.dav_upload_laws.proofs.SweptBefore.{others_left, swept_before}
use Rattle.dav_upload_laws.proofs.local_sweeps_take_what_was_left_before.Goals as goal

pub returns-clause-swept : goal.returns-clause-swept
returns-clause-swept g c = λ dir limit s t v w r was now plain names clear sweeps.
    swept_before _ _ _ tt (λ s. s.ways) (λ s. g.R.Remember.state s.memory) (λ s. s.moment) c.calls_are_local.ensures dir limit s t v w r was now plain names clear sweeps

pub returns-clause-others : goal.returns-clause-others
returns-clause-others g c = λ shown dir limit s t v w r was now plain names clear sweeps.
    others_left _ _ _ tt (λ s. s.ways) (λ s. g.R.Remember.state s.memory) (λ s. s.moment) c.calls_are_local.ensures shown dir limit s t v w r was now plain names clear sweeps
