-- Some list of calls led to each tally that a session reaches.
use Rattle.std.proofs.Common.{◌≡◌, ℕ, List, [], ◌∷◌, take, Ok, Err, Result, refl, subst}
use Rattle.std.specs.Result.{result_map_both}
use Rattle.rules_books.specs.Tables.{Tables, IsLawful}
use Rattle.certificate_pairing.specs.Dockets.{Tally, empty, docket_of, Docket}
use Rattle.calls_serve.specs.declared.Call.{Call}
use Rattle.calls_serve.specs.Runs.{after}
use Rattle.calls_serve.specs.Laws.{IsReached, opened}
use Rattle.calls_serve.proofs.Prefixes.{onward}
use Rattle.file_head.specs.declared.faults.LineFault.{LineFault}
use Rattle.file_head.specs.Rates.{Rates, rates_on, tables_by}
use Rattle.answer_docket.specs.declared.FileFault.{FileFault}
use Rattle.answer_docket.proofs.Showing.{rates_lawful, led_holds}
use Rattle.answer_session.specs.declared.serving.Opened.{Opened}
use Rattle.answer_session.specs.Lines.{call_at}
use Rattle.answer_session.specs.Sessions.{after_line, head_in}
use Rattle.answer_session.specs.Sent.{opening}
use Rattle.answer_session.specs.Laws.{tally_after_lines, whole_lines, ReachedAndHolds, HoldsThroughout}

led_line : (d : Docket Tables) → IsLawful d.book → (r : Result Call LineFault) → IsReached d → IsReached (record d { tally = after_line d r })
led_line d law (Ok call) led = (onward d law (after d call) call refl led).1
led_line d law (Err fault) led = led

led_lines : (d : Docket Tables) → IsLawful d.book → (fs : List (List ℕ)) → IsReached d → IsReached (record d { tally = tally_after_lines d fs })
led_lines d law [] led = led
led_lines d law (f ∷ fs) led = led_lines (record d { tally = after_line d (call_at f) }) law fs (led_line d law (call_at f) led)

reached : (t : Tables) → IsLawful t → (size : ℕ) (fs : List (List ℕ)) → ReachedAndHolds (docket_of t size (tally_after_lines (opened t size) fs))
reached t law size fs =
    let led : IsReached (docket_of t size (tally_after_lines (opened t size) fs)) = led_lines (opened t size) law fs ([], refl) in
    (led, led_holds (docket_of t size (tally_after_lines (opened t size) fs)) law led)

-- the law of a session, by what its head opens
pub held : (input : List ℕ) (r : Result Opened FileFault) → result_map_both opening (λ e. e) r ≡ head_in input → HoldsThroughout input
held input (Ok o) e = λ g i k.
    let rates : rates_on o.docket.book ≡ g.value.rates = let same : opening o ≡ g = cc in λ j. (same j).value.rates in
    reached (tables_by g.value.rates) (subst (λ (r : Rates). IsLawful (tables_by r)) rates (rates_lawful o.docket.book)) g.value.size (take k (whole_lines g.left))
held input (Err fault) e = λ g i k. absurd cc
