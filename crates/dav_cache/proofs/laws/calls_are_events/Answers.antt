use Rattle.dav_cache.proofs.Binding.{gets_are_events, negatives_are_events, opens_are_events}
use Rattle.dav_cache.proofs.laws.calls_are_events.Goals as goal

pub returns : goal.returns
returns c = record { gets = gets_are_events; opens = opens_are_events; negatives = negatives_are_events }
