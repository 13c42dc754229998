use Rattle.std.proofs.Common.{[], Bool, ap, subst, ◌∙◌}
use Rattle.std.specs.Prelude.{OnOk}
use Rattle.dav_page.specs.Listed.{AreSound}
use Rattle.dav_model.specs.Conditions.{Fields}
use Rattle.dav_model.specs.Due.{query}
use Rattle.dav_model.specs.Head.{is_get}
use Rattle.dav_model.specs.Indexes.{IsIndexReply}
use Rattle.dav_get.specs.Right.{reply_at}
use Rattle.dav_get.proofs.SoundPages.{method_is, page_sound}
use Rattle.dav_get.proofs.autoindex.handle_autoindex.Goals as goal

pub returns-clause-page : goal.returns-clause-page
returns-clause-page g c number =
    subst (λ (gives : Bool). OnOk c.get_page.result (IsIndexReply gives c.args.path.now (AreSound c.args.path.now) (reply_at [] number c.get_page.result)))
    (ap is_get c.method_for.ensures ∙ method_is c.args.head)
    (subst (λ (fields : Fields). OnOk c.get_page.result (IsIndexReply (is_get c.method_for.result) c.args.path.now (AreSound c.args.path.now) (reply_at fields number c.get_page.result)))
    c.new-fields.ensures
    (page_sound g.S.GuardedFileSystem.view g.S.GuardedFileSystem.listings
    (query c.args.settings.now c.new-fields.result c.method_for.result c.args.path.now) c.args.credentials.now number c.get_page.result c.args.fs.now c.get_page.new.fs c.get_page.ensures.table))
