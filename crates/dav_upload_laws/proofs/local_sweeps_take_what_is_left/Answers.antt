use Rattle.dav_upload_laws.proofs.SweptExactly.{swept_exactly}
use Rattle.dav_upload_laws.proofs.local_sweeps_take_what_is_left.Goals as goal

pub returns : goal.returns
returns g c = λ dir s t v w r was now plain names clear sweeps.
    swept_exactly _ _ _ tt (λ s. s.ways) (λ s. g.R.Remember.state s.memory) (λ s. s.moment) c.calls_are_local.ensures dir s t v w r was now plain names clear sweeps
