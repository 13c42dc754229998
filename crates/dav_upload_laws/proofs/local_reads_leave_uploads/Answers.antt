use Rattle.dav_upload_laws.proofs.GetsLeave.{get_leaves, handed_on, page_leaves, polls_leave}
use Rattle.dav_upload_laws.proofs.local_reads_leave_uploads.Goals as goal

pub returns-clause-gets : goal.returns-clause-gets
returns-clause-gets g c = λ shown q s t v w r was now plain of run life.
    get_leaves _ _ _ tt (λ s. s.ways) (λ s. g.R.Remember.state s.memory) (λ s. s.moment) c.calls_are_local.ensures shown q s t v w was now r plain of run life

pub returns-clause-pages : goal.returns-clause-pages
returns-clause-pages g c = λ shown q s t v w r was now run life.
    page_leaves _ _ _ tt (λ s. s.ways) (λ s. g.R.Remember.state s.memory) (λ s. s.moment) c.calls_are_local.ensures shown q s t v w was now r run life

pub returns-clause-polls : goal.returns-clause-polls
returns-clause-polls g c = λ shown m n v w before after was now is read touches.
    (let left = polls_leave _ _ _ tt (λ s. s.ways) (λ s. g.R.Remember.state s.memory) (λ s. s.moment) c.calls_are_local.ensures shown m n v w was now is before after read touches in
    (left.0, left.1, handed_on _ _ _ tt (λ s. s.ways) (λ s. g.R.Remember.state s.memory) (λ s. s.moment) c.calls_are_local.ensures m n before after read touches))
