-- The claim standing that is found for one that is sent.
use Rattle.std.proofs.Common.{◌≡◌, ℕ, ◌<◌, true, eqb, List, length, get_or, Some}
use Rattle.std.proofs.lemmas.Bool.{and_parts, eqb-true}
use Rattle.std.proofs.lemmas.List.Quantifiers.{position-Some}
use Rattle.certificate_pairing.specs.declared.Claim.{Claim}
use Rattle.certificate_pairing.specs.Claims.{legs_of}
use Rattle.certificate_pairing.specs.Kept.{no_claim}
use Rattle.calls_docket.specs.Finding.{like_claim, claim_like}

legs_same : (c l : Claim) → like_claim c l ≡ true → legs_of l ≡ legs_of c
legs_same c l h =
    let a = and_parts (eqb l.article c.article) _ h in
    let b = and_parts (eqb l.first c.first) _ a.1 in
    let d = and_parts (eqb l.second c.second) (eqb l.third c.third) b.1 in
    let i = eqb-true l.first c.first b.0 in
    let j = eqb-true l.second c.second d.0 in
    let k = eqb-true l.third c.third d.1 in
    cc

-- a claim stands there, with the same legs
pub record There (ls : List Claim) (c : Claim) (k : ℕ) : Type 0 where
  pub below : k < length ls
  pub same : legs_of (get_or ls k no_claim) ≡ legs_of c

pub there : (ls : List Claim) (c : Claim) (k : ℕ) → claim_like ls c ≡ Some k → There ls c k
there ls c k e =
    let found = position-Some (like_claim c) ls k no_claim e in
    record { below = found.0; same = legs_same c (get_or ls k no_claim) found.1 }
