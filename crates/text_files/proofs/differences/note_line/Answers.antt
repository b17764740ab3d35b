use Rattle.std.proofs.Common.{◌∙◌, ap, is_some, map, refl, sym, Some}
use Rattle.std.proofs.lemmas.Map.Text.{hash_map_updates_str}
use Rattle.text_files.specs.Differences.{place_in}
use Rattle.text_files.proofs.DiffNearest.{line-found, none-there, noted-again, noted-new}
use Rattle.text_files.proofs.differences.note_line.Goals as goal

pub returns-in_ok-insert-in-Some : goal.returns-in_ok-insert-in-Some
returns-in_ok-insert-in-Some g c are =
    let line = c.in-Some.line.now in
    let found = line-found c.args.lines.now c.args.at line c.in-Some.ensures.lookup.3.0
    (c.in-Some.ensures.lookup.3.1 line) in
    let none = none-there _ _ c.contains_key.ensures c.if-not-contains_key.true in
    noted-new (map (λ line. line.now) c.args.lines.now) c.args.at (place_in c.args.places.now) are line.now
    (place_in c.insert.new.self) found.0 found.1 none
    (hash_map_updates_str line.now c.args.places.now c.insert.new.self (Some c.args.at)
    c.in_ok-insert-in-Some.ensures.updates)

pub returns-else-not-contains_key : goal.returns-else-not-contains_key
returns-else-not-contains_key g c are =
    let line = c.in-Some.line.now in
    let found = line-found c.args.lines.now c.args.at line c.in-Some.ensures.lookup.3.0
    (c.in-Some.ensures.lookup.3.1 line) in
    noted-again (map (λ line. line.now) c.args.lines.now) c.args.at (place_in c.args.places.now) are _ refl
    (ap (λ l. is_some (place_in c.args.places.now l)) found.1
    ∙ sym c.contains_key.ensures ∙ c.if-not-contains_key.false)
