use Rattle.dav_cache.proofs.Runs.{entries_sound, listings_right}
use Rattle.dav_cache.proofs.Items.{absent_only, path_only, checks_held}
use Rattle.dav_cache.proofs.Facts.{facts_are_kept}
use Rattle.dav_cache.proofs.History.{peeks_held}
use Rattle.dav_cache.proofs.laws.transparency.Goals as goal

pub returns : goal.returns
returns c = record { absent = absent_only; there = path_only; sound = entries_sound; listings = listings_right; facts = facts_are_kept; peeks = peeks_held; checks = checks_held }
