-- "Mistakes to shut out", and what the plots do not catch: further tables, each for one reading. Assumes nothing.
use Rattle.std.specs.Prelude.{List, [], ◌∷◌, true, false}
use Rattle.steps.specs.Mode.{switches}
use Rattle.steps.specs.Outcome.{Outcome.refused, Outcome.converted}
use Rattle.steps.specs.Tables.{Line.row, sheet, room, Plot}

-- one list too
unfoldable pub pins : List Plot
pins =
    -- Capturing `arguments` in Enabled: an async arrow's `arguments` stays.
    record {
      chosen = switches true true false;
      names = (97 ∷ 114 ∷ 103 ∷ 117 ∷ 109 ∷ 101 ∷ 110 ∷ 116 ∷ 115 ∷ []) ∷ [];
      table = row 0 0 0 5 ∷ row 1 0 0 5 ∷ row 16 3 0 5 ∷ row 18 0 0 4 ∷ row 11 0 1 5 ∷ [];
      lent = room 2048 256;
      answer = converted
          (sheet (row 0 0 0 5 ∷ row 1 0 0 5 ∷ row 16 3 0 5 ∷ row 18 0 0 4 ∷ row 11 0 1 5 ∷ []))
          [];
    } ∷
    -- Making the accessors Functions: with arrows on too they stay Arrows.
    record {
      chosen = switches true true false;
      names = (102 ∷ 111 ∷ 111 ∷ []) ∷ (67 ∷ []) ∷ [];
      table = row 0 0 0 9 ∷ row 20 8 2 9 ∷ row 21 0 0 9 ∷ row 17 1 0 9 ∷ row 18 0 0 5 ∷ row 19 0 0 9 ∷ row 1 0 0 9 ∷ row 12 0 1 9 ∷ row 10 0 0 9 ∷ [];
      lent = room 2048 256;
      answer = converted
          (sheet (row 0 0 0 15 ∷ row 20 8 2 15 ∷ row 21 0 0 15 ∷ row 17 1 0 15 ∷ row 18 0 0 5 ∷ row 19 0 0 15 ∷ row 2 0 0 12 ∷ row 3 1 1 12 ∷ row 16 2 0 12 ∷
          row 18 0 0 10 ∷ row 12 0 1 12 ∷ row 10 0 0 12 ∷ row 1 0 0 15 ∷ row 14 0 0 15 ∷ row 11 1 1 15 ∷ []))
          (3 ∷ 1 ∷ 3 ∷ []);
    } ∷
    -- Scanning on after a direct `super()`: `super(); super(); () => this`, the second call is left alone.
    record {
      chosen = switches true false false;
      names = (102 ∷ 111 ∷ 111 ∷ []) ∷ (67 ∷ []) ∷ [];
      table = row 0 0 0 16 ∷ row 20 8 2 16 ∷ row 21 0 0 16 ∷ row 17 4 0 16 ∷ row 18 0 0 5 ∷ row 19 0 0 16 ∷ row 1 0 0 9 ∷ row 14 0 0 9 ∷ row 10 0 0 9 ∷
          row 1 0 0 12 ∷ row 14 0 0 12 ∷ row 10 0 0 12 ∷ row 1 0 0 16 ∷ row 16 2 0 16 ∷ row 18 0 0 15 ∷ row 9 0 0 16 ∷ [];
      lent = room 2048 256;
      answer = converted
          (sheet (row 0 0 0 25 ∷ row 20 8 2 25 ∷ row 21 0 0 25 ∷ row 17 4 0 25 ∷ row 18 0 0 5 ∷ row 19 0 0 25 ∷ row 2 0 0 8 ∷ row 3 1 1 8 ∷ row 1 0 0 11 ∷
          row 14 0 0 11 ∷ row 10 0 0 11 ∷ row 1 0 0 16 ∷ row 15 0 0 16 ∷ row 28 0 0 15 ∷ row 11 1 1 15 ∷ row 9 0 0 16 ∷ row 1 0 0 19 ∷ row 14 0 0 19 ∷
          row 10 0 0 19 ∷ row 1 0 0 25 ∷ row 17 0 0 25 ∷ row 18 0 0 22 ∷ row 19 0 0 25 ∷ row 4 0 0 25 ∷ row 11 1 1 25 ∷ []))
          (1 ∷ 0 ∷ 3 ∷ []);
    } ∷
    -- `super(super(1), () => this)`: the arguments of a direct call are visited, those of another are not.
    record {
      chosen = switches true false false;
      names = (102 ∷ 111 ∷ 111 ∷ []) ∷ (67 ∷ []) ∷ [];
      table = row 0 0 0 15 ∷ row 20 8 2 15 ∷ row 21 0 0 15 ∷ row 17 4 0 15 ∷ row 18 0 0 5 ∷ row 19 0 0 15 ∷ row 1 0 0 15 ∷ row 14 0 0 15 ∷ row 10 0 0 9 ∷
          row 14 0 0 12 ∷ row 10 0 0 11 ∷ row 8 1 0 12 ∷ row 16 2 0 15 ∷ row 18 0 0 14 ∷ row 9 0 0 15 ∷ [];
      lent = room 2048 256;
      answer = converted
          (sheet (row 0 0 0 29 ∷ row 20 8 2 29 ∷ row 21 0 0 29 ∷ row 17 4 0 29 ∷ row 18 0 0 5 ∷ row 19 0 0 29 ∷ row 2 0 0 8 ∷ row 3 1 1 8 ∷ row 1 0 0 24 ∷
          row 14 0 0 24 ∷ row 10 0 0 11 ∷ row 26 0 0 19 ∷ row 14 0 0 15 ∷ row 10 0 0 14 ∷ row 8 1 0 15 ∷ row 15 0 0 19 ∷ row 28 0 0 18 ∷
          row 11 1 1 18 ∷ row 9 0 0 19 ∷ row 17 0 0 24 ∷ row 18 0 0 21 ∷ row 19 0 0 24 ∷ row 4 0 0 24 ∷ row 11 1 1 24 ∷ row 1 0 0 29 ∷ row 15 0 0 29 ∷
          row 28 0 0 28 ∷ row 11 1 1 28 ∷ row 9 0 0 29 ∷ []))
          (1 ∷ 0 ∷ 3 ∷ []);
    } ∷
    -- `() => this; class extends super() { [super()] = this }` in a constructor: of a Class heritage and computed keys are visited.
    record {
      chosen = switches true false false;
      names = (102 ∷ 111 ∷ 111 ∷ []) ∷ (67 ∷ []) ∷ [];
      table = row 0 0 0 18 ∷ row 20 8 2 18 ∷ row 21 0 0 18 ∷ row 17 4 0 18 ∷ row 18 0 0 5 ∷ row 19 0 0 18 ∷ row 1 0 0 10 ∷ row 16 2 0 10 ∷ row 18 0 0 9 ∷
          row 9 0 0 10 ∷ row 1 0 0 18 ∷ row 20 1 0 18 ∷ row 14 0 0 14 ∷ row 10 0 0 14 ∷ row 22 5 0 18 ∷ row 14 0 0 17 ∷ row 10 0 0 17 ∷ row 9 0 0 18 ∷ [];
      lent = room 2048 256;
      answer = converted
          (sheet (row 0 0 0 32 ∷ row 20 8 2 32 ∷ row 21 0 0 32 ∷ row 17 4 0 32 ∷ row 18 0 0 5 ∷ row 19 0 0 32 ∷ row 2 0 0 8 ∷ row 3 1 1 8 ∷ row 1 0 0 14 ∷
          row 17 0 0 14 ∷ row 18 0 0 11 ∷ row 19 0 0 14 ∷ row 4 0 0 14 ∷ row 11 1 1 14 ∷ row 1 0 0 32 ∷ row 20 1 0 32 ∷ row 26 0 0 23 ∷ row 14 0 0 19 ∷
          row 10 0 0 19 ∷ row 15 0 0 23 ∷ row 28 0 0 22 ∷ row 11 1 1 22 ∷ row 9 0 0 23 ∷ row 22 5 0 32 ∷ row 26 0 0 31 ∷ row 14 0 0 27 ∷
          row 10 0 0 27 ∷ row 15 0 0 31 ∷ row 28 0 0 30 ∷ row 11 1 1 30 ∷ row 9 0 0 31 ∷ row 9 0 0 32 ∷ []))
          (1 ∷ 0 ∷ 3 ∷ []);
    } ∷
    -- `super[this] += super.x` in an async method: set, this, get, then prop and value.
    record {
      chosen = switches false true false;
      names = (102 ∷ 111 ∷ 111 ∷ []) ∷ (67 ∷ []) ∷ [];
      table = row 0 0 0 14 ∷ row 20 8 2 14 ∷ row 21 0 0 14 ∷ row 17 1 0 14 ∷ row 18 0 0 5 ∷ row 19 0 0 14 ∷ row 1 0 0 14 ∷ row 15 3 0 14 ∷ row 28 0 0 12 ∷
          row 13 0 0 12 ∷ row 10 0 0 11 ∷ row 9 0 0 12 ∷ row 12 0 1 14 ∷ row 10 0 0 14 ∷ [];
      lent = room 2048 256;
      answer = converted
          (sheet (row 0 0 0 31 ∷ row 20 8 2 31 ∷ row 21 0 0 31 ∷ row 17 1 0 31 ∷ row 18 0 0 5 ∷ row 19 0 0 31 ∷ row 2 0 0 25 ∷ row 3 1 1 18 ∷ row 16 2 0 18 ∷
          row 18 0 0 12 ∷ row 3 1 4 11 ∷ row 3 1 5 12 ∷ row 15 0 0 18 ∷ row 28 0 0 17 ∷ row 13 0 0 17 ∷ row 10 0 0 16 ∷ row 11 1 4 17 ∷ row 11 1 5 18 ∷
          row 3 1 3 23 ∷ row 16 2 0 23 ∷ row 18 0 0 21 ∷ row 12 0 1 23 ∷ row 10 0 0 23 ∷ row 3 1 2 25 ∷ row 9 0 0 25 ∷ row 1 0 0 31 ∷ row 14 0 0 31 ∷
          row 11 1 1 28 ∷ row 11 1 2 29 ∷ row 14 0 0 31 ∷ row 11 1 3 31 ∷ []))
          (4 ∷ 0 ∷ 3 ∷ 1 ∷ 0 ∷ 3 ∷ 3 ∷ 1 ∷ 3 ∷ 5 ∷ 0 ∷ 3 ∷ 6 ∷ 0 ∷ 3 ∷ []);
    } ∷
    -- `super[this](2)` there: get, this, then prop.
    record {
      chosen = switches false true false;
      names = (102 ∷ 111 ∷ 111 ∷ []) ∷ (67 ∷ []) ∷ [];
      table = row 0 0 0 12 ∷ row 20 8 2 12 ∷ row 21 0 0 12 ∷ row 17 1 0 12 ∷ row 18 0 0 5 ∷ row 19 0 0 12 ∷ row 1 0 0 12 ∷ row 14 0 0 12 ∷ row 13 0 0 11 ∷
          row 10 0 0 10 ∷ row 9 0 0 11 ∷ row 8 2 0 12 ∷ [];
      lent = room 2048 256;
      answer = converted
          (sheet (row 0 0 0 24 ∷ row 20 8 2 24 ∷ row 21 0 0 24 ∷ row 17 1 0 24 ∷ row 18 0 0 5 ∷ row 19 0 0 24 ∷ row 2 0 0 16 ∷ row 3 1 1 14 ∷ row 16 2 0 14 ∷
          row 18 0 0 11 ∷ row 3 1 3 11 ∷ row 13 0 0 14 ∷ row 10 0 0 13 ∷ row 11 1 3 14 ∷ row 3 1 2 16 ∷ row 9 0 0 16 ∷ row 1 0 0 24 ∷ row 14 0 0 24 ∷
          row 12 1 0 22 ∷ row 14 0 0 22 ∷ row 11 1 1 21 ∷ row 11 1 2 22 ∷ row 11 1 2 23 ∷ row 8 2 0 24 ∷ []))
          (3 ∷ 0 ∷ 3 ∷ 1 ∷ 0 ∷ 3 ∷ 5 ∷ 0 ∷ 3 ∷ []);
    } ∷
    -- A Super under a Target: `super.x` as a Target's child is left, `super.a` in `super.a.b` below it is not.
    record {
      chosen = switches false true false;
      names = (102 ∷ 111 ∷ 111 ∷ []) ∷ (67 ∷ []) ∷ [];
      table = row 0 0 0 15 ∷ row 20 8 2 15 ∷ row 21 0 0 15 ∷ row 17 1 0 15 ∷ row 18 0 0 5 ∷ row 19 0 0 15 ∷ row 1 0 0 15 ∷ row 8 3 0 15 ∷ row 28 0 0 11 ∷
          row 12 0 1 11 ∷ row 10 0 0 11 ∷ row 28 0 0 15 ∷ row 12 0 2 15 ∷ row 12 0 1 15 ∷ row 10 0 0 15 ∷ [];
      lent = room 2048 256;
      answer = converted
          (sheet (row 0 0 0 21 ∷ row 20 8 2 21 ∷ row 21 0 0 21 ∷ row 17 1 0 21 ∷ row 18 0 0 5 ∷ row 19 0 0 21 ∷ row 2 0 0 12 ∷ row 3 1 1 12 ∷ row 16 2 0 12 ∷
          row 18 0 0 10 ∷ row 12 0 1 12 ∷ row 10 0 0 12 ∷ row 1 0 0 21 ∷ row 8 3 0 21 ∷ row 28 0 0 17 ∷ row 12 0 1 17 ∷ row 10 0 0 17 ∷ row 28 0 0 21 ∷
          row 12 0 2 21 ∷ row 14 0 0 21 ∷ row 11 1 1 21 ∷ []))
          (3 ∷ 1 ∷ 3 ∷ []);
    } ∷
    -- `class { x = () => this; static { () => this } }`, arrows on: a Field is skipped as a frame of `this`, a StaticBlock is one.
    record {
      chosen = switches true false false;
      names = (102 ∷ 111 ∷ 111 ∷ []) ∷ (67 ∷ []) ∷ [];
      table = row 0 0 0 11 ∷ row 20 8 2 11 ∷ row 22 4 0 6 ∷ row 16 2 0 6 ∷ row 18 0 0 5 ∷ row 9 0 0 6 ∷ row 23 0 0 11 ∷ row 1 0 0 11 ∷ row 16 2 0 11 ∷
          row 18 0 0 10 ∷ row 9 0 0 11 ∷ [];
      lent = room 2048 256;
      answer = converted
          (sheet (row 0 0 0 21 ∷ row 2 0 0 4 ∷ row 3 1 1 4 ∷ row 9 0 0 4 ∷ row 20 8 2 21 ∷ row 22 4 0 11 ∷ row 17 0 0 11 ∷ row 18 0 0 8 ∷ row 19 0 0 11 ∷
          row 4 0 0 11 ∷ row 11 1 1 11 ∷ row 23 0 0 21 ∷ row 2 0 0 15 ∷ row 3 1 2 15 ∷ row 9 0 0 15 ∷ row 1 0 0 21 ∷ row 17 0 0 21 ∷ row 18 0 0 18 ∷
          row 19 0 0 21 ∷ row 4 0 0 21 ∷ row 11 1 2 21 ∷ []))
          (1 ∷ 0 ∷ 0 ∷ 1 ∷ 0 ∷ 6 ∷ []);
    } ∷
    -- `super.x` in a StaticBlock inside a moved method: module 4 goes on past the block, which is the frame.
    record {
      chosen = switches false true false;
      names = (102 ∷ 111 ∷ 111 ∷ []) ∷ (67 ∷ []) ∷ [];
      table = row 0 0 0 11 ∷ row 20 8 2 11 ∷ row 21 0 0 11 ∷ row 17 1 0 11 ∷ row 18 0 0 5 ∷ row 19 0 0 11 ∷ row 20 8 2 11 ∷ row 23 0 0 11 ∷ row 1 0 0 11 ∷
          row 12 0 1 11 ∷ row 10 0 0 11 ∷ [];
      lent = room 2048 256;
      answer = converted
          (sheet (row 0 0 0 17 ∷ row 20 8 2 17 ∷ row 21 0 0 17 ∷ row 17 1 0 17 ∷ row 18 0 0 5 ∷ row 19 0 0 17 ∷ row 20 8 2 17 ∷ row 23 0 0 17 ∷ row 2 0 0 14 ∷
          row 3 1 1 14 ∷ row 16 2 0 14 ∷ row 18 0 0 12 ∷ row 12 0 1 14 ∷ row 10 0 0 14 ∷ row 1 0 0 17 ∷ row 14 0 0 17 ∷ row 11 1 1 17 ∷ []))
          (3 ∷ 1 ∷ 7 ∷ []);
    } ∷
    -- `async () => function (x = arguments) {}`, async on only: Params go on outward, but the frame is the function.
    record {
      chosen = switches false true false;
      names = (97 ∷ 114 ∷ 103 ∷ 117 ∷ 109 ∷ 101 ∷ 110 ∷ 116 ∷ 115 ∷ []) ∷ (120 ∷ []) ∷ [];
      table = row 0 0 0 9 ∷ row 1 0 0 9 ∷ row 16 3 0 9 ∷ row 18 0 0 4 ∷ row 17 0 0 9 ∷ row 18 0 0 8 ∷ row 3 0 2 8 ∷ row 11 0 1 8 ∷ row 19 0 0 9 ∷ [];
      lent = room 2048 256;
      answer = converted
          (sheet (row 0 0 0 12 ∷ row 1 0 0 12 ∷ row 16 3 0 12 ∷ row 18 0 0 4 ∷ row 17 0 0 12 ∷ row 18 0 0 8 ∷ row 3 0 2 8 ∷ row 11 1 1 8 ∷ row 19 0 0 12 ∷
          row 2 0 0 12 ∷ row 3 1 1 12 ∷ row 27 0 0 12 ∷ []))
          (2 ∷ 0 ∷ 4 ∷ []);
    } ∷
    -- An async arrow in Enabled stays an Arrow, and its This is captured.
    record {
      chosen = switches true false false;
      names = [];
      table = row 0 0 0 5 ∷ row 1 0 0 5 ∷ row 16 3 0 5 ∷ row 18 0 0 4 ∷ row 9 0 0 5 ∷ [];
      lent = room 2048 256;
      answer = converted
          (sheet (row 0 0 0 8 ∷ row 2 0 0 4 ∷ row 3 1 1 4 ∷ row 9 0 0 4 ∷ row 1 0 0 8 ∷ row 16 3 0 8 ∷ row 18 0 0 7 ∷ row 11 1 1 8 ∷ []))
          (1 ∷ 0 ∷ 0 ∷ []);
    } ∷
    -- `async function () { this }`, async on: not method-like, so its This stays.
    record {
      chosen = switches false true false;
      names = [];
      table = row 0 0 0 7 ∷ row 1 0 0 7 ∷ row 17 1 0 7 ∷ row 18 0 0 4 ∷ row 19 0 0 7 ∷ row 1 0 0 7 ∷ row 9 0 0 7 ∷ [];
      lent = room 2048 256;
      answer = converted
          (sheet (row 0 0 0 7 ∷ row 1 0 0 7 ∷ row 17 1 0 7 ∷ row 18 0 0 4 ∷ row 19 0 0 7 ∷ row 1 0 0 7 ∷ row 9 0 0 7 ∷ []))
          [];
    } ∷
    -- A moved async generator method's This is captured; its switch is that of async generators.
    record {
      chosen = switches false false true;
      names = (102 ∷ 111 ∷ 111 ∷ []) ∷ (67 ∷ []) ∷ [];
      table = row 0 0 0 8 ∷ row 20 8 2 8 ∷ row 21 0 0 8 ∷ row 17 3 0 8 ∷ row 18 0 0 5 ∷ row 19 0 0 8 ∷ row 1 0 0 8 ∷ row 9 0 0 8 ∷ [];
      lent = room 2048 256;
      answer = converted
          (sheet (row 0 0 0 11 ∷ row 20 8 2 11 ∷ row 21 0 0 11 ∷ row 17 3 0 11 ∷ row 18 0 0 5 ∷ row 19 0 0 11 ∷ row 2 0 0 9 ∷ row 3 1 1 9 ∷ row 9 0 0 9 ∷
          row 1 0 0 11 ∷ row 11 1 1 11 ∷ []))
          (1 ∷ 0 ∷ 3 ∷ []);
    } ∷
    -- `super.x` at Program: 6 at the Super.
    record {
      chosen = switches true false false;
      names = (102 ∷ 111 ∷ 111 ∷ []) ∷ (67 ∷ []) ∷ [];
      table = row 0 0 0 4 ∷ row 1 0 0 4 ∷ row 12 0 1 4 ∷ row 10 0 0 4 ∷ [];
      lent = room 2048 256;
      answer = refused 6 3;
    } ∷
    -- `super.x` in a Field's value: 7 at the Field.
    record {
      chosen = switches true false false;
      names = (102 ∷ 111 ∷ 111 ∷ []) ∷ (67 ∷ []) ∷ [];
      table = row 0 0 0 5 ∷ row 20 8 2 5 ∷ row 22 4 0 5 ∷ row 12 0 1 5 ∷ row 10 0 0 5 ∷ [];
      lent = room 2048 256;
      answer = refused 7 2;
    } ∷
    -- An arrow in a Field's value, async on only: 7; with arrows on it is converted (above).
    record {
      chosen = switches false true false;
      names = (102 ∷ 111 ∷ 111 ∷ []) ∷ (67 ∷ []) ∷ [];
      table = row 0 0 0 6 ∷ row 20 8 2 6 ∷ row 22 4 0 6 ∷ row 16 2 0 6 ∷ row 18 0 0 5 ∷ row 9 0 0 6 ∷ [];
      lent = room 2048 256;
      answer = refused 7 2;
    } ∷
    -- `var arguments`, async on only: 8 at the Declarator; with arrows on it is copied.
    record {
      chosen = switches false true false;
      names = (97 ∷ 114 ∷ 103 ∷ 117 ∷ 109 ∷ 101 ∷ 110 ∷ 116 ∷ 115 ∷ []) ∷ [];
      table = row 0 0 0 3 ∷ row 2 0 0 3 ∷ row 3 0 1 3 ∷ [];
      lent = room 2048 256;
      answer = refused 8 2;
    } ∷
    record {
      chosen = switches true false false;
      names = (97 ∷ 114 ∷ 103 ∷ 117 ∷ 109 ∷ 101 ∷ 110 ∷ 116 ∷ 115 ∷ []) ∷ [];
      table = row 0 0 0 3 ∷ row 2 0 0 3 ∷ row 3 0 1 3 ∷ [];
      lent = room 2048 256;
      answer = converted
          (sheet (row 0 0 0 3 ∷ row 2 0 0 3 ∷ row 3 0 1 3 ∷ []))
          [];
    } ∷
    []
