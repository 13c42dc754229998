use Rattle.std.proofs.Common.{◌==◌, ◌∙◌, List, length, refl, ap}
use Rattle.dav_model.specs.declared.settings.Settings.{Settings}
use Rattle.dav_model.specs.declared.step.Step.{Step}
use Rattle.dav_sessions.specs.Sessions.{rules_of}
use Rattle.dav_sessions.proofs.Beginning.{plays_by, plays_none, plays_unbegun}
use Rattle.dav_sessions.proofs.playing.play_session.Goals as goal

pub returns-then-is_empty : goal.returns-then-is_empty
returns-then-is_empty g c = record {
  steps = refl;
  played = plays_none _ _ _ _ _ c.is_empty.result (g.met.D.Disk.world c.args.session.now.disk) (c.is_empty.ensures ∙ ap (λ (xs : List Step). length xs == 0) c.as_slice-steps.ensures) c.if-is_empty.true;
}

pub returns-in-Err : goal.returns-in-Err
returns-in-Err g c = record {
  steps = refl;
  played = plays_unbegun _ _ _ _ _ c.in-Err.error c.is_empty.result (g.met.D.Disk.world c.args.session.now.disk) (c.is_empty.ensures ∙ ap (λ (xs : List Step). length xs == 0) c.as_slice-steps.ensures) c.if-is_empty.false;
}

pub returns-in-Ok : goal.returns-in-Ok
returns-in-Ok g c = record {
  steps = refl;
  played = plays_by _ _ _ _ _ _ _ _ _ _ _ _ (ap (λ (s : Settings). rules_of s c.args.ways.now.fold c.args.ways.now.macos) c.in-Ok.ensures) c.as_slice-steps.ensures
      (c.into_vec-given.ensures ∙ c.replace-held.ensures.value) c.new.ensures c.play_by.ensures;
}
