use Rattle.dav_core.specs.declared.method.DavMethod.TheVariants.{Copy}
use Rattle.dav_methods.proofs.plans.CarryFollows.{copy_follows}
use Rattle.dav_methods.proofs.carry_plan_laws.copies_follow_their_plan.Goals as goal

pub returns : goal.returns
returns g c =
    λ credentials rules k s follows path fields body r t run.
    copy_follows g.S.GuardedFileSystem.view g.S.GuardedFileSystem.listings g.S.File.DavFile.view.writes credentials
    rules k s follows (record { method = Copy; path = path; fields = fields; body = body }) r t run
