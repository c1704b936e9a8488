use Rattle.std.proofs.Common.{◌≡◌, ℕ, ◌+◌, ◌<◌, List, ◌∷◌, ◌++◌, length, get_or, take, drop, sym, ap, ◌∙◌, arith, length-drop}
use Rattle.std.proofs.lemmas.List.{take-append-drop, set-get_or, drop_more}
use Rattle.rules_books.specs.Tables.{Tables}
use Rattle.certificate_pairing.specs.Dockets.{Tally, docket_of}
use Rattle.calls_serve.specs.declared.Call.{Call}
use Rattle.calls_serve.specs.Runs.{Reply, reply_to, after, ran, replies}
use Rattle.calls_serve.specs.Laws.{served}
use Rattle.calls_serve.proofs.Prefixes.{ran_more, replies_more, places_more, after_same, reply_same}
use Rattle.calls_serve.proofs.serve_all.Goals as goal

-- what is left of a list begins with x
turn : {X : Type 0} (xs rest : List X) (i : ℕ) (x : X) → drop i xs ≡ x ∷ rest → (i < length xs) × (x ≡ get_or xs i x) × (rest ≡ drop (i + 1) xs)
turn xs rest i x e =
    let long = length-drop i xs in
    let same : length (drop i xs) ≡ length (x ∷ rest) = ap length e in
    let below : i < length xs = omega arith in
    let more = drop_more xs i x below in
    (below, cc, cc)

all_served : (t : Tables) (s : ℕ) (y : Tally) (cs : List Call) (ps os : List Reply) (i : ℕ) → i ≡ served cs ps → take i os ≡ replies (docket_of t s y) (take i cs) → drop i os ≡ drop i ps → os ≡ replies (docket_of t s y) (take (served cs ps) cs) ++ drop (served cs ps) ps
all_served t s y cs ps os i n e k = let whole = take-append-drop i os in cc

pub loop-place-preserved : goal.loop-place-preserved
loop-place-preserved g c =
    let d = c.args.docket.now in
    let cs = c.args.calls.now in
    let t = g.B.Book.tables d.book in
    let s = d.size in
    let y = d.tally in
    let i = c.loop-place.place-index in
    let k = c.in-Some.call.now in
    let inv = c.loop-place.invariant in
    let next = turn cs _ i k (sym inv.rest ∙ c.in-Some.ensures.steps) in
    let a = c.dispatch.result in
    let reply = reply_same g.B.Book.tables inv.docket k a c.dispatch.ensures.reply in
    let before = docket_of t s (ran (docket_of t s y) (take i cs)) in
    record {
      docket = after_same g.B.Book.tables inv.docket k c.dispatch.new.docket c.dispatch.ensures.after ∙ ap (λ (z : Tally). record d { tally = z }) (ran_more t s y cs i k next.0 _ (ap (after before) next.1));
      replied = replies_more t s y cs i k next.0 c.loop-place.places a (omega arith) inv.replied (reply ∙ ap (reply_to before) next.1);
      kept = places_more c.loop-place.places c.args.places.now i a inv.kept;
      rest = next.2;
      few = omega (arith, next.0);
    }

pub returns-in_default : goal.returns-in_default
returns-in_default g c =
    let d = c.args.docket.now in
    let cs = c.args.calls.now in
    let t = g.B.Book.tables d.book in
    let s = d.size in
    let y = d.tally in
    let inv = c.loop-place.invariant in
    let os = c.loop-place.places in
    let i = c.loop-place.place-index in
    let none = ap length inv.rest in
    let left = length-drop i cs in
    let all : i ≡ served cs c.args.places.now = omega (arith, c.in_default.ensures.steps.0) in
    record {
      replies = set-get_or os i _ ∙ all_served t s y cs c.args.places.now os i all inv.replied inv.kept;
      after = inv.docket ∙ ap (λ (n : ℕ). record d { tally = ran (docket_of t s y) (take n cs) }) all;
    }

pub returns-clause-replies : goal.returns-clause-replies
returns-clause-replies g c =
    let d = c.args.docket.now in
    let inv = c.loop-place.invariant in
    all_served (g.B.Book.tables d.book) d.size d.tally c.args.calls.now c.args.places.now c.loop-place.places c.loop-place.place-index (omega arith) inv.replied inv.kept
