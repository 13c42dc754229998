use Rattle.std.proofs.Common.{◌≡◌, ◌∙◌, Ok, subst, sym, ap, [], refl, rules, arith}
use Rattle.std.proofs.lemmas.List.{take_all}
use Rattle.dav_local.specs.Shown.{knowledge_of}
use Rattle.dav_model.proofs.Denied.{played_on}
use Rattle.dav_model.proofs.JoiningLemmas.{none_played, not_begun, refused_at, answered_at, replies_grow, step_rules}
use Rattle.dav_model.proofs.StillSteps.{stepped_forgotten}
use Rattle.dav_model.specs.Bodies.{read_size_of}
use Rattle.dav_model.specs.Play.{Played, Stepped, Stage}
use Rattle.dav_model.specs.Still.{knowing_at}
use Rattle.dav_handler.specs.By.{by_store}
use Rattle.dav_handler.specs.Held.{body_at}
use Rattle.dav_handler.specs.Player.{stage_of}
use Rattle.dav_handler.proofs.Upkeep.{stays_full, tells_open}
use Rattle.dav_shared.specs.Books.{MaySettle, kept_by}
use Rattle.dav_shared.specs.Waits.{waiting}
use Rattle.dav_sessions.specs.Running.{GoesOn}
use Rattle.dav_sessions.specs.Sessions.{known_by_page}
use Rattle.dav_sessions.proofs.Running.{begins, goes_on, known_now, settles}
use Rattle.dav_sessions.proofs.playing.play_on.Goals as goal

pub loop-step-init : goal.loop-step-init
loop-step-init g c =
    let by = by_store (λ m. kept_by (g.B.Book.names m.cache.now.folder) (waiting m.waits)) c.args.player.now.settings c.args.player.now.store in
    record {
      played = (
        [],
        none_played _ _ _ (tells_open (read_size_of c.args.player.now.settings.read_buf_size) (g.D.Disk.state c.args.player.now.store.disk) (body_at c.args.player.now.bodies) by c.args.player.now.replies c.args.player.now.replies (g.met.D.Disk.world c.args.player.now.store.disk) c.args.player.now.ok)
            (stays_full (read_size_of c.args.player.now.settings.read_buf_size) (g.D.Disk.state c.args.player.now.store.disk) (body_at c.args.player.now.bodies) by c.args.player.now.replies c.args.player.now.replies c.args.player.now.ok) refl,
      );
      knows = c.requires.knows;
      goes = begins _ _ _ _ c.requires.may;
      loan = refl;
      replies = omega arith;
    }

pub returns-then-is_err-clause-done : goal.returns-then-is_err-clause-done
returns-then-is_err-clause-done g c =
    let (trail, played) = c.loop-step.invariant.played in
    let by = by_store (λ m. kept_by (g.B.Book.names m.cache.now.folder) (waiting m.waits)) c.loop-step.player.settings c.loop-step.player.store in
    played_on trail _ _ _ _ _ _ (refused_at trail _ _ _ c.step-item.result _ _ _ _ _ _ played c.loop-step-test.true c.step-item.is c.reserve.ensures.items
    (not_begun _ c.step-item.result _ (tells_open (read_size_of c.loop-step.player.settings.read_buf_size) (g.D.Disk.state c.loop-step.player.store.disk) (body_at c.loop-step.player.bodies) by c.loop-step.player.replies c.loop-step.player.replies (g.met.D.Disk.world c.loop-step.player.store.disk) c.loop-step.player.ok)))

pub returns-in-Err-clause-done : goal.returns-in-Err-clause-done
returns-in-Err-clause-done g c = let (trail, played) = c.loop-step.invariant.played in
    played_on trail _ _ _ _ _ _ (refused_at trail _ _ _ c.step-item.result _ _ _ _ _ _ played c.loop-step-test.true c.step-item.is c.reserve.ensures.items c.in-Err.ensures.done)

pub settle-requires : goal.settle-requires
settle-requires g c =
    let out : c.into_waiting.result ≡ c.step.new.self.store.memory.waits = search rules in
    subst (λ o. MaySettle (g.B.Book.names c.args.cache.now.folder) (waiting o)) (sym out)
    (settles (g.B.Book.names c.args.cache.now.folder) (g.B.Book.names c.step.new.self.store.memory.cache.now.folder) _ _ _ _ _ _ c.args.steps.now (waiting c.step.new.self.store.memory.waits)
    c.loop-step.invariant.knows refl c.loop-step.invariant.goes c.in-Ok.ensures.done.0)

pub loop-step-preserved : goal.loop-step-preserved
loop-step-preserved g c =
    let (trail, played) = c.loop-step.invariant.played in
    let st = c.in-Ok.ensures.done.0 in
    let page = g.B.Book.names c.args.cache.now.folder in
    let fresh : knowledge_of (kept_by (g.B.Book.names c.new-fresh.result.cache.now.folder) (waiting c.new-fresh.result.waits)) ≡ known_by_page page =
    known_now g.B.Book.names c.new-fresh.result.cache.now.folder c.args.cache.now.folder c.new-fresh.result.waits c.new-fresh.ensures.cache c.new-fresh.ensures.waits in
    let now = stage_of c.loop-step.player in
    let made = stage_of c.step.new.self in
    let left = stage_of c.replace_memory-left.new.self in
    let stage : left ≡ knowing_at (known_by_page page) made = c.replace_memory-left.ensures.stage ∙ ap (λ k. knowing_at k made) fresh in
    let forgot : Stepped now c.step-item.result (Ok c.in-Ok.answer) left =
    subst (λ b. Stepped now c.step-item.result (Ok c.in-Ok.answer) b) (ap (λ k. knowing_at k made) c.loop-step.invariant.knows ∙ sym stage)
    (stepped_forgotten now made c.step-item.result c.in-Ok.answer c.in-Ok.ensures.done) in
    record {
      played = (_, answered_at trail _ _ _ c.step-item.result c.in-Ok.answer _ _ _ _ _ played c.loop-step-test.true c.step-item.is (search rules) forgot);
      knows = ap (λ (b : Stage). b.playing.knows) stage;
      goes = subst (λ (b : Stage). GoesOn page b.playing.rules b.at c.args.steps.now) (sym stage)
          (subst (λ r. GoesOn page r made.at c.args.steps.now) (sym (step_rules now.playing now.at made.at c.step-item.result c.in-Ok.answer made.playing st))
          (goes_on page now.playing made.playing now.at made.at c.step-item.result c.in-Ok.answer c.args.steps.now c.loop-step.step-index c.loop-step-test.true c.step-item.is c.loop-step.invariant.goes st));
      loan = c.replace_memory-left.ensures.loan ∙ (c.in-Ok.ensures.loan ∙ c.loop-step.invariant.loan);
      replies =
          let grow = replies_grow _ _ _ _ _ _ st in
          let same : c.replace_memory-left.new.self.replies ≡ c.step.new.self.replies = ap (λ (b : Stage). b.playing.replies) stage in omega arith;
    }

pub returns-clause-done : goal.returns-clause-done
returns-clause-done g c = let (trail, played) = c.loop-step.invariant.played in
    played_on trail _ _ _ _ _ _ (subst (λ steps. Played trail (stage_of c.args.player.now) steps c.args.answers.now.items c.loop-step.answers.items (Ok tt) (stage_of c.loop-step.player))
    (take_all c.loop-step.step-index c.args.steps.now c.loop-step-test.false) played)
