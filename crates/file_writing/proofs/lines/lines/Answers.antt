use Rattle.std.proofs.Common.{ℕ, ◌<◌, List, [], ◌++◌, length, get_or, take, string_bytes, sym, ap, ◌∙◌, rules}
use Rattle.std.specs.List.{flat_map}
use Rattle.std.proofs.lemmas.List.{take_all, flat_map_more, take_more}
use Rattle.file_writing.specs.Texts.{ended}
use Rattle.file_writing.proofs.Forms.{printed_line}
use Rattle.file_writing.proofs.lines.lines.Goals as goal

pub loop-item-preserved : goal.loop-item-preserved
loop-item-preserved g c = λ text p.
    let f : g.row.T.Denot → List ℕ = λ x. ended (c.args.key.now ++ text x) in
    let xs = c.args.items.now in
    let i = c.loop-item.item-index in
    let x = c.item-item.result in
    let h : i < length xs = search rules in
    printed_line (string_bytes c.loop-item.out) c.args.key.now (text x) (g.T.Display.output x) (p x) c.in_ok-writeln.ensures.bytes
    ∙ (λ j. c.loop-item.invariant text p j ++ f (c.item-item.is j))
    ∙ flat_map_more f [] (take i xs) (get_or xs i x)
    ∙ ap (flat_map f) (sym (take_more xs i x h))

pub returns : goal.returns
returns g c = λ text p. let e = c.loop-item.invariant text p in search (rules, take_all)
