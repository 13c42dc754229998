use Rattle.dav_model.proofs.AskedOnce.{asked_once, never_unasked}
use Rattle.dav_model.proofs.laws.fields_ask_for_one_thing.Goals as goal

pub returns-clause-one : goal.returns-clause-one
returns-clause-one c = asked_once

pub returns-clause-some : goal.returns-clause-some
returns-clause-some c = never_unasked
