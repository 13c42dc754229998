-- What follows of each reply to a request that writes: it announces that it has no body, and has none.
use Rattle.std.proofs.Common.{◌≡◌, inl, inr, ℕ, List, true, [], None, Some, refl, sym, ap, subst}
use Rattle.dav_core.specs.declared.method.DavMethod.{DavMethod}
use Rattle.dav_core.specs.DavPath.{WebPath}
use Rattle.dav_model.specs.declared.target.Target.TheVariants.{Writes}
use Rattle.dav_model.specs.Announced.{HasSoundBody, IsFramed}
use Rattle.dav_model.specs.Conditions.{Fields}
use Rattle.dav_model.specs.Head.{Reply}
use Rattle.dav_model.specs.Written.{IsWriteReply, made}
use Rattle.dav_model.proofs.Framing.{framed_empty, refused_framed}
use Rattle.dav_model.proofs.Nonempty.{sound_empty, sound_refused}

pub write_framed : (method : DavMethod) (path : WebPath) (prefix : List ℕ) (fields : Fields) (rose : Type 0) (reply : Reply) → IsWriteReply method prefix fields rose reply → IsFramed (Writes method path) reply
write_framed method path prefix fields rose reply (inl (is, may)) = subst (IsFramed (Writes method path)) (sym is) (framed_empty true made refl refl)
write_framed method path prefix fields rose reply (inr (inl (is, may))) = subst (IsFramed (Writes method path)) (sym is) (λ value says. (let f : None ≡ Some value = says in cc))
write_framed method path prefix fields rose reply (inr (inr halted)) = refused_framed (Writes method path) reply fields halted.status halted.close halted.is

pub write_sound : (method : DavMethod) (prefix : List ℕ) (fields : Fields) (rose : Type 0) (reply : Reply) → IsWriteReply method prefix fields rose reply → HasSoundBody reply
write_sound method prefix fields rose reply (inl (is, may)) = sound_empty reply (ap (λ (r : Reply). r.parts) is)
write_sound method prefix fields rose reply (inr (inl (is, may))) = sound_empty reply (ap (λ (r : Reply). r.parts) is)
write_sound method prefix fields rose reply (inr (inr halted)) = sound_refused reply fields halted.status halted.close halted.is

pub write_bare : (method : DavMethod) (prefix : List ℕ) (fields : Fields) (rose : Type 0) (reply : Reply) → IsWriteReply method prefix fields rose reply → reply.parts ≡ []
write_bare method prefix fields rose reply (inl (is, may)) = ap (λ (r : Reply). r.parts) is
write_bare method prefix fields rose reply (inr (inl (is, may))) = ap (λ (r : Reply). r.parts) is
write_bare method prefix fields rose reply (inr (inr halted)) = ap (λ (r : Reply). r.parts) halted.is
