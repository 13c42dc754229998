use Rattle.std.proofs.Common.{inl, inr}
use Rattle.dav_model.specs.Due.{query}
use Rattle.dav_get.proofs.Asking.{gets_asks}
use Rattle.dav_get.proofs.AskingMost.{gets_most}
use Rattle.dav_get.proofs.FileOpened.{gets_opened}
use Rattle.dav_get.proofs.Framing.{gets_framed, gets_sound}
use Rattle.dav_get.proofs.HeardIsRight.{heard_right}
use Rattle.dav_get.proofs.TableIsHeard.{gets_heard}
use Rattle.dav_get.proofs.get.handle_get.Goals as goal

pub returns-clause-framed : goal.returns-clause-framed
returns-clause-framed g c = λ number.
    gets_framed g.S.GuardedFileSystem.view g.S.GuardedFileSystem.listings (query c.args.settings.now c.args.fields.now c.args.method c.args.path.now) c.args.credentials.now number c.args.fs.now c.get_once.result c.get_once.new.fs c.get_once.ensures.table

pub returns-clause-sound : goal.returns-clause-sound
returns-clause-sound g c = λ number.
    gets_sound g.S.GuardedFileSystem.view g.S.GuardedFileSystem.listings (query c.args.settings.now c.args.fields.now c.args.method c.args.path.now) c.args.credentials.now number c.args.fs.now c.get_once.result c.get_once.new.fs c.get_once.ensures.table

pub returns-clause-heard : goal.returns-clause-heard
returns-clause-heard g c =
    gets_heard g.S.GuardedFileSystem.view g.S.GuardedFileSystem.listings (query c.args.settings.now c.args.fields.now c.args.method c.args.path.now) c.args.credentials.now c.args.fs.now c.get_once.result c.get_once.new.fs c.get_once.ensures.table

pub returns-clause-right : goal.returns-clause-right
returns-clause-right g c = λ looked opened listed shows.
    elim (gets_heard g.S.GuardedFileSystem.view g.S.GuardedFileSystem.listings (query c.args.settings.now c.args.fields.now c.args.method c.args.path.now) c.args.credentials.now c.args.fs.now c.get_once.result c.get_once.new.fs c.get_once.ensures.table) [
      | inl none ↦ inl none
      | inr heard ↦ inr (heard_right g.S.GuardedFileSystem.view g.S.GuardedFileSystem.listings (query c.args.settings.now c.args.fields.now c.args.method c.args.path.now) looked opened listed c.args.credentials.now c.args.fs.now c.get_once.result c.get_once.new.fs shows c.get_once.ensures.life heard)
    ]

pub returns-clause-asks : goal.returns-clause-asks
returns-clause-asks g c = λ calls some few.
    gets_asks g.S.GuardedFileSystem.view g.S.GuardedFileSystem.listings (query c.args.settings.now c.args.fields.now c.args.method c.args.path.now) calls some c.args.credentials.now c.args.fs.now c.get_once.result c.get_once.new.fs few c.get_once.ensures.life c.get_once.ensures.table

pub returns-clause-bounded : goal.returns-clause-bounded
returns-clause-bounded g c = λ each few.
    gets_most g.S.GuardedFileSystem.view g.S.GuardedFileSystem.listings (query c.args.settings.now c.args.fields.now c.args.method c.args.path.now) each c.args.credentials.now c.args.fs.now c.get_once.result c.get_once.new.fs few c.get_once.ensures.life c.get_once.ensures.table

pub returns-clause-opened : goal.returns-clause-opened
returns-clause-opened g c =
    gets_opened g.S.GuardedFileSystem.view g.S.GuardedFileSystem.listings (query c.args.settings.now c.args.fields.now c.args.method c.args.path.now) c.args.credentials.now c.args.fs.now c.get_once.result c.get_once.new.fs c.get_once.ensures.table
