use Rattle.std.proofs.Common.{◌≡◌, Ok, Err, length, refl, inl, inr, arith}
use Rattle.std.proofs.lemmas.Grind.{common_steps}
use Rattle.dav_readcache.proofs.cached.CachedFileDavFile.read_bytes.Goals as goal

pub returns-in-Err-clause-steps : goal.returns-in-Err-clause-steps
returns-in-Err-clause-steps g c =
    let long : length c.read_into.new.into ≡ c.args.count = grind (arith, common_steps) in
    inr (c.read_into.new.into, Err c.in-Err.error, long, c.in-Err.ensures.steps, c.in-Err.ensures.hit, refl)

pub returns-in-Ok-from_vec-clause-steps : goal.returns-in-Ok-from_vec-clause-steps
returns-in-Ok-from_vec-clause-steps g c =
    let long : length c.read_into.new.into ≡ c.args.count = grind (arith, common_steps) in
    inr (c.read_into.new.into, Ok c.in-Ok-read_into.length, long, c.in-Ok-read_into.ensures.steps, c.in-Ok-read_into.ensures.hit, inl (grind (arith, common_steps)))

pub returns-clause-steps : goal.returns-clause-steps
returns-clause-steps g c =
    let long : length c.read_into.new.into ≡ c.args.count = grind (arith, common_steps) in
    inr (c.read_into.new.into, Ok c.in-Ok-read_into.length, long, c.in-Ok-read_into.ensures.steps, c.in-Ok-read_into.ensures.hit, inr refl)
