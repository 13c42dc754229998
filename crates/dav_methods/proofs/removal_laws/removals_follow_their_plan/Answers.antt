use Rattle.dav_methods.proofs.plans.DeleteFollows.{deletes_right}
use Rattle.dav_methods.proofs.removal_laws.removals_follow_their_plan.Goals as goal

pub returns : goal.returns
returns g c =
    λ credentials rules k s follows path fields body r t deletes.
    deletes_right g.S.GuardedFileSystem.view g.S.GuardedFileSystem.listings g.S.File.DavFile.view.writes
    credentials rules path fields body s k follows r t deletes
