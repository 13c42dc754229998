use Rattle.dav_model.specs.Unset.{nothing_set}
use Rattle.dav_upload_laws.proofs.Succeeds.{abort_succeeds, begin_succeeds, commit_succeeds, piece_succeeds}
use Rattle.dav_upload_laws.proofs.local_uploads_succeed.Goals as goal

pub returns-clause-begins : goal.returns-clause-begins
returns-clause-begins g c = λ s t v target fields token r was plain regular free clear open_way none_there passes none begins.
    begin_succeeds _ _ _ tt (λ s. s.ways) (λ s. g.R.Remember.state s.memory) (λ s. s.moment) c.calls_are_local.ensures nothing_set s t v target fields token r was plain regular free clear open_way none_there passes none begins

pub returns-clause-pieces : goal.returns-clause-pieces
returns-clause-pieces g c = λ shown u x s t v bytes pieces r stands whole none writes_so.
    piece_succeeds _ _ _ tt (λ s. s.ways) (λ s. g.R.Remember.state s.memory) (λ s. s.moment) c.calls_are_local.ensures nothing_set shown u x s t v bytes pieces r stands whole none writes_so

pub returns-clause-commits : goal.returns-clause-commits
returns-clause-commits g c = λ shown u s t v pieces fields r was plain stands whole beside clear regular open_at passes none commits.
    commit_succeeds _ _ _ tt (λ s. s.ways) (λ s. g.R.Remember.state s.memory) (λ s. s.moment) c.calls_are_local.ensures nothing_set shown u s t v pieces was stands plain none fields r beside clear regular open_at passes whole commits

pub returns-clause-aborts : goal.returns-clause-aborts
returns-clause-aborts g c = λ shown u s t v pieces r was plain stands flat clear none aborts.
    abort_succeeds _ _ _ tt (λ s. s.ways) (λ s. g.R.Remember.state s.memory) (λ s. s.moment) c.calls_are_local.ensures nothing_set shown u s t v pieces was stands plain none r flat clear aborts
