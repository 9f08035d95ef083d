-- "Plots walked by hand": the starred ones, as one list. Assumes nothing.
use Rattle.std.specs.Prelude.{List, [], ◌∷◌, true, false}
use Rattle.steps.specs.Mode.{switches}
use Rattle.steps.specs.Outcome.{Outcome.refused, Outcome.converted}
use Rattle.steps.specs.Tables.{Line.row, sheet, room, Plot}

-- the ten starred plots; the second has two lines
unfoldable pub starred : List Plot
starred =
    -- *1 The sheet.
    record {
      chosen = switches true false false;
      names = [];
      table = row 0 0 0 5 ∷ row 1 0 0 5 ∷ row 16 2 0 5 ∷ row 18 0 0 4 ∷ row 9 0 0 5 ∷ [];
      lent = room 2048 256;
      answer = converted
          (sheet (row 0 0 0 10 ∷ row 2 0 0 4 ∷ row 3 1 1 4 ∷ row 9 0 0 4 ∷ row 1 0 0 10 ∷ row 17 0 0 10 ∷ row 18 0 0 7 ∷ row 19 0 0 10 ∷ row 4 0 0 10 ∷
          row 11 1 1 10 ∷ []))
          (1 ∷ 0 ∷ 0 ∷ []);
    } ∷
    -- *2 With 9 rows lent: 9;
    record {
      chosen = switches true false false;
      names = [];
      table = row 0 0 0 5 ∷ row 1 0 0 5 ∷ row 16 2 0 5 ∷ row 18 0 0 4 ∷ row 9 0 0 5 ∷ [];
      lent = room 9 256;
      answer = refused 9 0;
    } ∷
    -- with 10: accepted.
    record {
      chosen = switches true false false;
      names = [];
      table = row 0 0 0 5 ∷ row 1 0 0 5 ∷ row 16 2 0 5 ∷ row 18 0 0 4 ∷ row 9 0 0 5 ∷ [];
      lent = room 10 256;
      answer = converted
          (sheet (row 0 0 0 10 ∷ row 2 0 0 4 ∷ row 3 1 1 4 ∷ row 9 0 0 4 ∷ row 1 0 0 10 ∷ row 17 0 0 10 ∷ row 18 0 0 7 ∷ row 19 0 0 10 ∷ row 4 0 0 10 ∷
          row 11 1 1 10 ∷ []))
          (1 ∷ 0 ∷ 0 ∷ []);
    } ∷
    -- *3 All off: copied.
    record {
      chosen = switches false false false;
      names = [];
      table = row 0 0 0 5 ∷ row 1 0 0 5 ∷ row 16 2 0 5 ∷ row 18 0 0 4 ∷ row 9 0 0 5 ∷ [];
      lent = room 2048 256;
      answer = converted
          (sheet (row 0 0 0 5 ∷ row 1 0 0 5 ∷ row 16 2 0 5 ∷ row 18 0 0 4 ∷ row 9 0 0 5 ∷ []))
          [];
    } ∷
    -- *4 Async on only: copied.
    record {
      chosen = switches false true false;
      names = [];
      table = row 0 0 0 5 ∷ row 1 0 0 5 ∷ row 16 2 0 5 ∷ row 18 0 0 4 ∷ row 9 0 0 5 ∷ [];
      lent = room 2048 256;
      answer = converted
          (sheet (row 0 0 0 5 ∷ row 1 0 0 5 ∷ row 16 2 0 5 ∷ row 18 0 0 4 ∷ row 9 0 0 5 ∷ []))
          [];
    } ∷
    -- *5 Async arrow, async on only: captured, stays Arrow.
    record {
      chosen = switches false true false;
      names = [];
      table = row 0 0 0 5 ∷ row 1 0 0 5 ∷ row 16 3 0 5 ∷ row 18 0 0 4 ∷ row 9 0 0 5 ∷ [];
      lent = room 2048 256;
      answer = converted
          (sheet (row 0 0 0 8 ∷ row 2 0 0 4 ∷ row 3 1 1 4 ∷ row 9 0 0 4 ∷ row 1 0 0 8 ∷ row 16 3 0 8 ∷ row 18 0 0 7 ∷ row 11 1 1 8 ∷ []))
          (1 ∷ 0 ∷ 0 ∷ []);
    } ∷
    -- *6 Async generators on only: copied.
    record {
      chosen = switches false false true;
      names = [];
      table = row 0 0 0 5 ∷ row 1 0 0 5 ∷ row 16 3 0 5 ∷ row 18 0 0 4 ∷ row 9 0 0 5 ∷ [];
      lent = room 2048 256;
      answer = converted
          (sheet (row 0 0 0 5 ∷ row 1 0 0 5 ∷ row 16 3 0 5 ∷ row 18 0 0 4 ∷ row 9 0 0 5 ∷ []))
          [];
    } ∷
    -- *7 `super.foo` twice in a moved method: one get.
    record {
      chosen = switches false true false;
      names = (102 ∷ 111 ∷ 111 ∷ []) ∷ (67 ∷ []) ∷ [];
      table = row 0 0 0 12 ∷ row 20 8 2 12 ∷ row 21 0 0 12 ∷ row 17 1 0 12 ∷ row 18 0 0 5 ∷ row 19 0 0 12 ∷ row 1 0 0 9 ∷ row 12 0 1 9 ∷ row 10 0 0 9 ∷
          row 1 0 0 12 ∷ row 12 0 1 12 ∷ row 10 0 0 12 ∷ [];
      lent = room 2048 256;
      answer = converted
          (sheet (row 0 0 0 18 ∷ row 20 8 2 18 ∷ row 21 0 0 18 ∷ row 17 1 0 18 ∷ row 18 0 0 5 ∷ row 19 0 0 18 ∷ row 2 0 0 12 ∷ row 3 1 1 12 ∷ row 16 2 0 12 ∷
          row 18 0 0 10 ∷ row 12 0 1 12 ∷ row 10 0 0 12 ∷ row 1 0 0 15 ∷ row 14 0 0 15 ∷ row 11 1 1 15 ∷ row 1 0 0 18 ∷ row 14 0 0 18 ∷ row 11 1 1 18 ∷ []))
          (3 ∷ 1 ∷ 3 ∷ []);
    } ∷
    -- *8 `super.f(1)` there: binding 1 get, 2 this.
    record {
      chosen = switches false true false;
      names = (102 ∷ []) ∷ (67 ∷ []) ∷ [];
      table = row 0 0 0 11 ∷ row 20 8 2 11 ∷ row 21 0 0 11 ∷ row 17 1 0 11 ∷ row 18 0 0 5 ∷ row 19 0 0 11 ∷ row 1 0 0 11 ∷ row 14 0 0 11 ∷ row 12 0 1 10 ∷
          row 10 0 0 10 ∷ row 8 7 0 11 ∷ [];
      lent = room 2048 256;
      answer = converted
          (sheet (row 0 0 0 21 ∷ row 20 8 2 21 ∷ row 21 0 0 21 ∷ row 17 1 0 21 ∷ row 18 0 0 5 ∷ row 19 0 0 21 ∷ row 2 0 0 14 ∷ row 3 1 1 12 ∷ row 16 2 0 12 ∷
          row 18 0 0 10 ∷ row 12 0 1 12 ∷ row 10 0 0 12 ∷ row 3 1 2 14 ∷ row 9 0 0 14 ∷ row 1 0 0 21 ∷ row 14 0 0 21 ∷ row 12 1 0 19 ∷ row 14 0 0 19 ∷
          row 11 1 1 19 ∷ row 11 1 2 20 ∷ row 8 7 0 21 ∷ []))
          (3 ∷ 1 ∷ 3 ∷ 1 ∷ 0 ∷ 3 ∷ []);
    } ∷
    -- *9 `super(); () => this` in a constructor, Enabled: Var without initialiser, the call, the assignment.
    record {
      chosen = switches true false false;
      names = (102 ∷ 111 ∷ 111 ∷ []) ∷ (67 ∷ []) ∷ [];
      table = row 0 0 0 13 ∷ row 20 8 2 13 ∷ row 21 0 0 13 ∷ row 17 4 0 13 ∷ row 18 0 0 5 ∷ row 19 0 0 13 ∷ row 1 0 0 9 ∷ row 14 0 0 9 ∷ row 10 0 0 9 ∷
          row 1 0 0 13 ∷ row 16 2 0 13 ∷ row 18 0 0 12 ∷ row 9 0 0 13 ∷ [];
      lent = room 2048 256;
      answer = converted
          (sheet (row 0 0 0 22 ∷ row 20 8 2 22 ∷ row 21 0 0 22 ∷ row 17 4 0 22 ∷ row 18 0 0 5 ∷ row 19 0 0 22 ∷ row 2 0 0 8 ∷ row 3 1 1 8 ∷ row 1 0 0 11 ∷
          row 14 0 0 11 ∷ row 10 0 0 11 ∷ row 1 0 0 16 ∷ row 15 0 0 16 ∷ row 28 0 0 15 ∷ row 11 1 1 15 ∷ row 9 0 0 16 ∷ row 1 0 0 22 ∷ row 17 0 0 22 ∷
          row 18 0 0 19 ∷ row 19 0 0 22 ∷ row 4 0 0 22 ∷ row 11 1 1 22 ∷ []))
          (1 ∷ 0 ∷ 3 ∷ []);
    } ∷
    -- *10 Async arrow with `arguments` at Program, async on only: guarded.
    record {
      chosen = switches false true false;
      names = (97 ∷ 114 ∷ 103 ∷ 117 ∷ 109 ∷ 101 ∷ 110 ∷ 116 ∷ 115 ∷ []) ∷ [];
      table = row 0 0 0 5 ∷ row 1 0 0 5 ∷ row 16 3 0 5 ∷ row 18 0 0 4 ∷ row 11 0 1 5 ∷ [];
      lent = room 2048 256;
      answer = converted
          (sheet (row 0 0 0 8 ∷ row 2 0 0 4 ∷ row 3 1 1 4 ∷ row 27 1 0 4 ∷ row 1 0 0 8 ∷ row 16 3 0 8 ∷ row 18 0 0 7 ∷ row 11 1 1 8 ∷ []))
          (2 ∷ 0 ∷ 0 ∷ []);
    } ∷
    []
