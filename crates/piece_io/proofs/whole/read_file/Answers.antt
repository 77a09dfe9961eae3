use Rattle.std.proofs.Common.{◌≡◌, ◌+◌, ◌≤◌, ◌++◌, length, take, arith, ◌∙◌, ap, length-append}
use Rattle.std.proofs.lemmas.List.{length-take-le}
use Rattle.piece_io.specs.Told.{GivesFrom}
use Rattle.piece_io.proofs.Pieces.{IsFront-append, on_ok-map_err}
use Rattle.piece_io.proofs.whole.read_file.Goals as goal

pub loop-taken-preserved : goal.loop-taken-preserved
loop-taken-preserved g c =
    let before = c.loop-taken.bytes in
    let come = c.in-Ok.come in
    let into = c.read_at.new.into in
    let told = g.F.Files.contents c.args.files.now c.args.name.now in
    let fits : come ≤ length into = omega (arith, c.in-Ok.ensures.within, c.loop-taken.invariant.room) in
    let added : c.append.new.self ≡ before ++ take come into =
    on_ok-map_err c.append.result c.map_err-in-loop-taken.result c.in_ok-map_err.field-0
    c.map_err-in-loop-taken.ensures.variant c.in_ok-map_err.was c.append.ensures.ok in
    let longer : length c.append.new.self ≡ length before + come =
    ap length added ∙ length-append before (take come into)
    ∙ ap (λ n. length before + n) (length-take-le come into fits) in
    let gives : GivesFrom told (length before) come into =
    rw (← c.loop-taken.invariant.taken, ← c.loop-taken.invariant.contents c.args.name.now) c.in-Ok.ensures.gives in
    record {
      front = rw added (IsFront-append told before come into fits c.loop-taken.invariant.front gives);
      taken = omega (arith, longer, c.loop-taken.invariant.taken);
      near = omega (arith, c.in-Ok.ensures.within, c.loop-taken.invariant.room, c.loop-taken-test.true);
      room = omega arith;
      contents = λ q. c.in-Ok.ensures.same q ∙ c.loop-taken.invariant.contents q;
      counts = λ q. c.in-Ok.ensures.counts q ∙ c.loop-taken.invariant.counts q;
    }
