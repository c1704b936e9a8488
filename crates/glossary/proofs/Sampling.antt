-- The calls of the sample docket lead to what it holds.
use Rattle.std.proofs.Common.{◌≡◌, List, [], ◌∷◌, ℤ, Ok, Err, Result, IfOk, refl, sym, ap, subst, ◌∙◌}
use Rattle.std.specs.Result.{result_map_both}
use Rattle.rules_market.specs.Share.{Shares, share_quote}
use Rattle.rules_positions.specs.declared.Side.TheVariants.{Long, Short}
use Rattle.rules_positions.specs.declared.Kind.TheVariants.{Units, Call, Put}
use Rattle.rules_positions.specs.declared.Entry.{Entry}
use Rattle.rules_positions.specs.declared.record.Record.{Record}
use Rattle.rules_positions.specs.Records.{record_of}
use Rattle.rules_positions.proofs.Made.{recorded}
use Rattle.calls_docket.specs.Books.{share_tables}
use Rattle.certificate_pairing.specs.Claims.{CertificateShows}
use Rattle.certificate_certify.specs.declared.Certificate.{Certificate}
use Rattle.certificate_certify.specs.Certified.{CertifyReply, certify_reply}
use Rattle.calls_docket.specs.declared.Refusal.{Refusal}
use Rattle.calls_docket.specs.Refusals.{from_certify}
use Rattle.certificate_pairing.specs.Dockets.{Tally, empty, docket_of}
use Rattle.calls_docket.specs.Calls.{record_reply, tally_entered}
use Rattle.calls_serve.specs.declared.Call.{Call as CallOf}
use Rattle.calls_serve.specs.declared.Call.TheVariants.{Enter, Claim}
use Rattle.calls_serve.specs.Runs.{after, ran}
use Rattle.calls_serve.specs.Laws.{Holds}
use Rattle.rules_priced_examples.specs.Examples.{sample}
use Rattle.glossary.specs.Sample.{tables, units_ranged, put_ranged, call_ranged, units_held, put_held, call_held, claim, tally, sample_docket}

abbrev units_entry : Entry
units_entry = record { side = 76; kind = 85; strike = 0; days = 0; price = 0; quantity = 300 }

abbrev put_entry : Entry
put_entry = record { side = 76; kind = 80; strike = 4800; days = 100; price = 150; quantity = 2 }

abbrev call_entry : Entry
call_entry = record { side = 83; kind = 67; strike = 5500; days = 100; price = 120; quantity = 1 }

abbrev pub sample_calls : List CallOf
sample_calls = Enter units_entry ∷ Enter put_entry ∷ Enter call_entry ∷ Claim claim ∷ []

-- an entry that makes a record, entered
enters : (y : Tally) (e : Entry) (r : Record) → Ok r ≡ record_of 100 e → after (docket_of tables 100 y) (Enter e) ≡ tally_entered y (Ok r) (record_reply y.held (Ok r))
enters y e r made = sym (λ i. tally_entered y (made i) (record_reply y.held (made i)))

abbrev one : Tally
one = record { held = units_held ∷ []; claims = [] }

abbrev two : Tally
two = record { held = units_held ∷ put_held ∷ []; claims = [] }

on_sample : ran (docket_of tables 100 empty) sample_calls ≡ tally
on_sample =
    let first = enters empty units_entry units_held (recorded 100 units_entry Long Units refl refl refl units_ranged) in
    let second = enters one put_entry put_held (recorded 100 put_entry Long Put refl refl refl put_ranged) in
    let third = enters two call_entry call_held (recorded 100 call_entry Short Call refl refl refl call_ranged) in
    ap (λ (y : Tally). ran (docket_of tables 100 y) (Enter put_entry ∷ Enter call_entry ∷ Claim claim ∷ [])) first
    ∙ ap (λ (y : Tally). ran (docket_of tables 100 y) (Enter call_entry ∷ Claim claim ∷ [])) second
    ∙ ap (λ (y : Tally). ran (docket_of tables 100 y) (Claim claim ∷ [])) third

-- so they do on any sheet of the sample's values
pub sampled : (x : Shares) → x ≡ sample → (calls : List CallOf) → calls ≡ sample_calls → ran (docket_of (share_tables (share_quote x)) 100 empty) calls ≡ tally
sampled x same calls made = (λ i. ran (docket_of (share_tables (share_quote (same i))) 100 empty) (made i)) ∙ on_sample

-- what a certificate of the sample docket shows
pub shown_by : Holds sample_docket → (marks : List ℤ) (x : CertifyReply) → x ≡ certify_reply sample_docket marks → (r : Result Certificate Refusal) → r ≡ result_map_both (λ c. c) from_certify x → IfOk r (λ c. CertificateShows sample_docket marks c.total c.floor)
shown_by h marks (Ok c) same (Ok d) made =
    let is : d ≡ c = cc in
    subst (λ (e : Certificate). CertificateShows sample_docket marks e.total e.floor) (sym is) ((h.certified marks).shown c (sym same))
shown_by h marks (Ok c) same (Err e) made = tt
shown_by h marks (Err f) same (Ok d) made = absurd cc
shown_by h marks (Err f) same (Err e) made = tt
