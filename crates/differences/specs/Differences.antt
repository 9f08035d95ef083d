-- The tables of docs/DIFFERENCES.md, in the order of that page: where this port, the Rust and ECMA-262 part. Assumes nothing.
use Rattle.std.specs.Prelude.{List, [], ◌∷◌, ◌++◌, true, false}
use Rattle.steps.specs.Mode.{switches}
use Rattle.steps.specs.Outcome.{Outcome.refused, Outcome.converted}
use Rattle.steps.specs.Tables.{Line.row, sheet, room, Plot}

-- sections 1 to 12
unfoldable pub first_twelve : List Plot
first_twelve =
    -- `function f() { return () => arguments; }`, arrows on: `arguments` stays and is now the function's own.
    record {
      chosen = switches true false false;
      names = (102 ∷ []) ∷ (97 ∷ 114 ∷ 103 ∷ 117 ∷ 109 ∷ 101 ∷ 110 ∷ 116 ∷ 115 ∷ []) ∷ [];
      table = row 0 0 0 8 ∷ row 17 8 1 8 ∷ row 18 0 0 3 ∷ row 19 0 0 8 ∷ row 4 0 0 8 ∷ row 16 2 0 8 ∷ row 18 0 0 7 ∷ row 11 0 2 8 ∷ [];
      lent = room 2048 256;
      answer = converted
          (sheet (row 0 0 0 10 ∷ row 17 8 1 10 ∷ row 18 0 0 3 ∷ row 19 0 0 10 ∷ row 4 0 0 10 ∷ row 17 0 0 10 ∷ row 18 0 0 7 ∷ row 19 0 0 10 ∷ row 4 0 0 10 ∷
          row 11 0 2 10 ∷ []))
          [];
    } ∷
    -- `function f() { return async () => arguments; }`, arrows and async on: copied, though a later pass moves the arrow.
    record {
      chosen = switches true true false;
      names = (102 ∷ []) ∷ (97 ∷ 114 ∷ 103 ∷ 117 ∷ 109 ∷ 101 ∷ 110 ∷ 116 ∷ 115 ∷ []) ∷ [];
      table = row 0 0 0 8 ∷ row 17 8 1 8 ∷ row 18 0 0 3 ∷ row 19 0 0 8 ∷ row 4 0 0 8 ∷ row 16 3 0 8 ∷ row 18 0 0 7 ∷ row 11 0 2 8 ∷ [];
      lent = room 2048 256;
      answer = converted
          (sheet (row 0 0 0 8 ∷ row 17 8 1 8 ∷ row 18 0 0 3 ∷ row 19 0 0 8 ∷ row 4 0 0 8 ∷ row 16 3 0 8 ∷ row 18 0 0 7 ∷ row 11 0 2 8 ∷ []))
          [];
    } ∷
    -- `class C { m() { return () => super.x; } }`, arrows on: `super.x` stays, in a function.
    record {
      chosen = switches true false false;
      names = (120 ∷ []) ∷ (67 ∷ []) ∷ [];
      table = row 0 0 0 11 ∷ row 20 8 2 11 ∷ row 21 0 0 11 ∷ row 17 0 0 11 ∷ row 18 0 0 5 ∷ row 19 0 0 11 ∷ row 4 0 0 11 ∷ row 16 2 0 11 ∷ row 18 0 0 9 ∷
          row 12 0 1 11 ∷ row 10 0 0 11 ∷ [];
      lent = room 2048 256;
      answer = converted
          (sheet (row 0 0 0 13 ∷ row 20 8 2 13 ∷ row 21 0 0 13 ∷ row 17 0 0 13 ∷ row 18 0 0 5 ∷ row 19 0 0 13 ∷ row 4 0 0 13 ∷ row 17 0 0 13 ∷ row 18 0 0 9 ∷
          row 19 0 0 13 ∷ row 4 0 0 13 ∷ row 12 0 1 13 ∷ row 10 0 0 13 ∷ []))
          [];
    } ∷
    -- `class C { m() { return async () => super.x; } }`, arrows and async on: copied, though a later pass moves the arrow.
    record {
      chosen = switches true true false;
      names = (120 ∷ []) ∷ (67 ∷ []) ∷ [];
      table = row 0 0 0 11 ∷ row 20 8 2 11 ∷ row 21 0 0 11 ∷ row 17 0 0 11 ∷ row 18 0 0 5 ∷ row 19 0 0 11 ∷ row 4 0 0 11 ∷ row 16 3 0 11 ∷ row 18 0 0 9 ∷
          row 12 0 1 11 ∷ row 10 0 0 11 ∷ [];
      lent = room 2048 256;
      answer = converted
          (sheet (row 0 0 0 11 ∷ row 20 8 2 11 ∷ row 21 0 0 11 ∷ row 17 0 0 11 ∷ row 18 0 0 5 ∷ row 19 0 0 11 ∷ row 4 0 0 11 ∷ row 16 3 0 11 ∷ row 18 0 0 9 ∷
          row 12 0 1 11 ∷ row 10 0 0 11 ∷ []))
          [];
    } ∷
    -- `class C extends B { constructor() { (() => super())(); } }`, arrows on: `super()` stays, in a function.
    record {
      chosen = switches true false false;
      names = (66 ∷ []) ∷ (67 ∷ []) ∷ [];
      table = row 0 0 0 13 ∷ row 20 9 2 13 ∷ row 11 0 1 3 ∷ row 21 0 0 13 ∷ row 17 4 0 13 ∷ row 18 0 0 6 ∷ row 19 0 0 13 ∷ row 1 0 0 13 ∷ row 14 0 0 13 ∷
          row 16 2 0 13 ∷ row 18 0 0 11 ∷ row 14 0 0 13 ∷ row 10 0 0 13 ∷ [];
      lent = room 2048 256;
      answer = converted
          (sheet (row 0 0 0 15 ∷ row 20 9 2 15 ∷ row 11 0 1 3 ∷ row 21 0 0 15 ∷ row 17 4 0 15 ∷ row 18 0 0 6 ∷ row 19 0 0 15 ∷ row 1 0 0 15 ∷ row 14 0 0 15 ∷
          row 17 0 0 15 ∷ row 18 0 0 11 ∷ row 19 0 0 15 ∷ row 4 0 0 15 ∷ row 14 0 0 15 ∷ row 10 0 0 15 ∷ []))
          [];
    } ∷
    -- `class C { x = () => this; }`, arrows on: the captured `this` is the one outside of the class.
    record {
      chosen = switches true false false;
      names = (67 ∷ []) ∷ [];
      table = row 0 0 0 6 ∷ row 20 8 1 6 ∷ row 22 4 0 6 ∷ row 16 2 0 6 ∷ row 18 0 0 5 ∷ row 9 0 0 6 ∷ [];
      lent = room 2048 256;
      answer = converted
          (sheet (row 0 0 0 11 ∷ row 2 0 0 4 ∷ row 3 1 1 4 ∷ row 9 0 0 4 ∷ row 20 8 1 11 ∷ row 22 4 0 11 ∷ row 17 0 0 11 ∷ row 18 0 0 8 ∷ row 19 0 0 11 ∷
          row 4 0 0 11 ∷ row 11 1 1 11 ∷ []))
          (1 ∷ 0 ∷ 0 ∷ []);
    } ∷
    -- `function f(x = () => this) {}`, arrows on: a parameter reads a Var of the body.
    record {
      chosen = switches true false false;
      names = (102 ∷ []) ∷ (120 ∷ []) ∷ [];
      table = row 0 0 0 8 ∷ row 17 8 1 8 ∷ row 18 0 0 7 ∷ row 3 0 2 7 ∷ row 16 2 0 7 ∷ row 18 0 0 6 ∷ row 9 0 0 7 ∷ row 19 0 0 8 ∷ [];
      lent = room 2048 256;
      answer = converted
          (sheet (row 0 0 0 13 ∷ row 17 8 1 13 ∷ row 18 0 0 9 ∷ row 3 0 2 9 ∷ row 17 0 0 9 ∷ row 18 0 0 6 ∷ row 19 0 0 9 ∷ row 4 0 0 9 ∷ row 11 1 1 9 ∷
          row 19 0 0 13 ∷ row 2 0 0 13 ∷ row 3 1 1 13 ∷ row 9 0 0 13 ∷ []))
          (1 ∷ 0 ∷ 1 ∷ []);
    } ∷
    -- `function f(x = async () => this) {}`, async on only: the same of an async arrow.
    record {
      chosen = switches false true false;
      names = (102 ∷ []) ∷ (120 ∷ []) ∷ [];
      table = row 0 0 0 8 ∷ row 17 8 1 8 ∷ row 18 0 0 7 ∷ row 3 0 2 7 ∷ row 16 3 0 7 ∷ row 18 0 0 6 ∷ row 9 0 0 7 ∷ row 19 0 0 8 ∷ [];
      lent = room 2048 256;
      answer = converted
          (sheet (row 0 0 0 11 ∷ row 17 8 1 11 ∷ row 18 0 0 7 ∷ row 3 0 2 7 ∷ row 16 3 0 7 ∷ row 18 0 0 6 ∷ row 11 1 1 7 ∷ row 19 0 0 11 ∷ row 2 0 0 11 ∷
          row 3 1 1 11 ∷ row 9 0 0 11 ∷ []))
          (1 ∷ 0 ∷ 1 ∷ []);
    } ∷
    -- `function F() { return () => new.target; }`, arrows on: `new.target`, an Opaque, is now the function's own.
    record {
      chosen = switches true false false;
      names = (70 ∷ []) ∷ [];
      table = row 0 0 0 8 ∷ row 17 8 1 8 ∷ row 18 0 0 3 ∷ row 19 0 0 8 ∷ row 4 0 0 8 ∷ row 16 2 0 8 ∷ row 18 0 0 7 ∷ row 8 3 0 8 ∷ [];
      lent = room 2048 256;
      answer = converted
          (sheet (row 0 0 0 10 ∷ row 17 8 1 10 ∷ row 18 0 0 3 ∷ row 19 0 0 10 ∷ row 4 0 0 10 ∷ row 17 0 0 10 ∷ row 18 0 0 7 ∷ row 19 0 0 10 ∷ row 4 0 0 10 ∷
          row 8 3 0 10 ∷ []))
          [];
    } ∷
    -- `new (() => {})`, arrows on: the operand can now be constructed.
    record {
      chosen = switches true false false;
      names = [];
      table = row 0 0 0 6 ∷ row 1 0 0 6 ∷ row 8 4 0 6 ∷ row 16 0 0 6 ∷ row 18 0 0 5 ∷ row 19 0 0 6 ∷ [];
      lent = room 2048 256;
      answer = converted
          (sheet (row 0 0 0 6 ∷ row 1 0 0 6 ∷ row 8 4 0 6 ∷ row 17 0 0 6 ∷ row 18 0 0 5 ∷ row 19 0 0 6 ∷ []))
          [];
    } ∷
    -- `() => eval("this")`, arrows on: the text is not looked into.
    record {
      chosen = switches true false false;
      names = (101 ∷ 118 ∷ 97 ∷ 108 ∷ []) ∷ [];
      table = row 0 0 0 7 ∷ row 1 0 0 7 ∷ row 16 2 0 7 ∷ row 18 0 0 4 ∷ row 14 0 0 7 ∷ row 11 0 1 6 ∷ row 8 2 0 7 ∷ [];
      lent = room 2048 256;
      answer = converted
          (sheet (row 0 0 0 9 ∷ row 1 0 0 9 ∷ row 17 0 0 9 ∷ row 18 0 0 4 ∷ row 19 0 0 9 ∷ row 4 0 0 9 ∷ row 14 0 0 9 ∷ row 11 0 1 8 ∷ row 8 2 0 9 ∷ []))
          [];
    } ∷
    -- `class C { constructor() { super.x; () => this; } }`, arrows on: the captured `this` is never set.
    record {
      chosen = switches true false false;
      names = (120 ∷ []) ∷ (67 ∷ []) ∷ [];
      table = row 0 0 0 13 ∷ row 20 8 2 13 ∷ row 21 0 0 13 ∷ row 17 4 0 13 ∷ row 18 0 0 5 ∷ row 19 0 0 13 ∷ row 1 0 0 9 ∷ row 12 0 1 9 ∷ row 10 0 0 9 ∷
          row 1 0 0 13 ∷ row 16 2 0 13 ∷ row 18 0 0 12 ∷ row 9 0 0 13 ∷ [];
      lent = room 2048 256;
      answer = converted
          (sheet (row 0 0 0 17 ∷ row 20 8 2 17 ∷ row 21 0 0 17 ∷ row 17 4 0 17 ∷ row 18 0 0 5 ∷ row 19 0 0 17 ∷ row 2 0 0 8 ∷ row 3 1 1 8 ∷ row 1 0 0 11 ∷
          row 12 0 1 11 ∷ row 10 0 0 11 ∷ row 1 0 0 17 ∷ row 17 0 0 17 ∷ row 18 0 0 14 ∷ row 19 0 0 17 ∷ row 4 0 0 17 ∷ row 11 1 1 17 ∷ []))
          (1 ∷ 0 ∷ 3 ∷ []);
    } ∷
    -- `class C extends B { constructor(x = super()) { () => this; } }`, arrows on: Params are not scanned, so the captured `this` is never set.
    record {
      chosen = switches true false false;
      names = (66 ∷ []) ∷ (120 ∷ []) ∷ (67 ∷ []) ∷ [];
      table = row 0 0 0 14 ∷ row 20 9 3 14 ∷ row 11 0 1 3 ∷ row 21 0 0 14 ∷ row 17 4 0 14 ∷ row 18 0 0 9 ∷ row 3 0 2 9 ∷ row 14 0 0 9 ∷ row 10 0 0 9 ∷
          row 19 0 0 14 ∷ row 1 0 0 14 ∷ row 16 2 0 14 ∷ row 18 0 0 13 ∷ row 9 0 0 14 ∷ [];
      lent = room 2048 256;
      answer = converted
          (sheet (row 0 0 0 18 ∷ row 20 9 3 18 ∷ row 11 0 1 3 ∷ row 21 0 0 18 ∷ row 17 4 0 18 ∷ row 18 0 0 9 ∷ row 3 0 2 9 ∷ row 14 0 0 9 ∷ row 10 0 0 9 ∷
          row 19 0 0 18 ∷ row 2 0 0 12 ∷ row 3 1 1 12 ∷ row 1 0 0 18 ∷ row 17 0 0 18 ∷ row 18 0 0 15 ∷ row 19 0 0 18 ∷ row 4 0 0 18 ∷ row 11 1 1 18 ∷ []))
          (1 ∷ 0 ∷ 4 ∷ []);
    } ∷
    -- `class C extends B { constructor() { (() => this)(); super(); } }`, arrows on: the captured `this` is read before it is set.
    record {
      chosen = switches true false false;
      names = (66 ∷ []) ∷ (67 ∷ []) ∷ [];
      table = row 0 0 0 15 ∷ row 20 9 2 15 ∷ row 11 0 1 3 ∷ row 21 0 0 15 ∷ row 17 4 0 15 ∷ row 18 0 0 6 ∷ row 19 0 0 15 ∷ row 1 0 0 12 ∷ row 14 0 0 12 ∷
          row 16 2 0 12 ∷ row 18 0 0 11 ∷ row 9 0 0 12 ∷ row 1 0 0 15 ∷ row 14 0 0 15 ∷ row 10 0 0 15 ∷ [];
      lent = room 2048 256;
      answer = converted
          (sheet (row 0 0 0 24 ∷ row 20 9 2 24 ∷ row 11 0 1 3 ∷ row 21 0 0 24 ∷ row 17 4 0 24 ∷ row 18 0 0 6 ∷ row 19 0 0 24 ∷ row 2 0 0 9 ∷ row 3 1 1 9 ∷
          row 1 0 0 16 ∷ row 14 0 0 16 ∷ row 17 0 0 16 ∷ row 18 0 0 13 ∷ row 19 0 0 16 ∷ row 4 0 0 16 ∷ row 11 1 1 16 ∷ row 1 0 0 19 ∷ row 14 0 0 19 ∷
          row 10 0 0 19 ∷ row 1 0 0 24 ∷ row 15 0 0 24 ∷ row 28 0 0 23 ∷ row 11 1 1 23 ∷ row 9 0 0 24 ∷ []))
          (1 ∷ 0 ∷ 4 ∷ []);
    } ∷
    -- `class C extends B { constructor() { () => this; return {}; } }`, arrows on: `this` is read at the start.
    record {
      chosen = switches true false false;
      names = (66 ∷ []) ∷ (67 ∷ []) ∷ [];
      table = row 0 0 0 13 ∷ row 20 9 2 13 ∷ row 11 0 1 3 ∷ row 21 0 0 13 ∷ row 17 4 0 13 ∷ row 18 0 0 6 ∷ row 19 0 0 13 ∷ row 1 0 0 11 ∷ row 16 2 0 11 ∷
          row 18 0 0 10 ∷ row 9 0 0 11 ∷ row 4 0 0 13 ∷ row 24 0 0 13 ∷ [];
      lent = room 2048 256;
      answer = converted
          (sheet (row 0 0 0 18 ∷ row 20 9 2 18 ∷ row 11 0 1 3 ∷ row 21 0 0 18 ∷ row 17 4 0 18 ∷ row 18 0 0 6 ∷ row 19 0 0 18 ∷ row 2 0 0 10 ∷ row 3 1 1 10 ∷
          row 9 0 0 10 ∷ row 1 0 0 16 ∷ row 17 0 0 16 ∷ row 18 0 0 13 ∷ row 19 0 0 16 ∷ row 4 0 0 16 ∷ row 11 1 1 16 ∷ row 4 0 0 18 ∷ row 24 0 0 18 ∷ []))
          (1 ∷ 0 ∷ 4 ∷ []);
    } ∷
    -- `class C extends B { constructor() { try { [super(super())]; } catch (e) {} () => this; } }`, arrows on: the inner call sets nothing.
    record {
      chosen = switches true false false;
      names = (66 ∷ []) ∷ (67 ∷ []) ∷ [];
      table = row 0 0 0 20 ∷ row 20 9 2 20 ∷ row 11 0 1 3 ∷ row 21 0 0 20 ∷ row 17 4 0 20 ∷ row 18 0 0 6 ∷ row 19 0 0 20 ∷ row 6 0 0 16 ∷ row 5 0 0 15 ∷
          row 1 0 0 15 ∷ row 8 0 0 15 ∷ row 14 0 0 15 ∷ row 10 0 0 13 ∷ row 14 0 0 15 ∷ row 10 0 0 15 ∷ row 5 0 0 16 ∷ row 1 0 0 20 ∷ row 16 2 0 20 ∷
          row 18 0 0 19 ∷ row 9 0 0 20 ∷ [];
      lent = room 2048 256;
      answer = converted
          (sheet (row 0 0 0 29 ∷ row 20 9 2 29 ∷ row 11 0 1 3 ∷ row 21 0 0 29 ∷ row 17 4 0 29 ∷ row 18 0 0 6 ∷ row 19 0 0 29 ∷ row 2 0 0 9 ∷ row 3 1 1 9 ∷
          row 6 0 0 23 ∷ row 5 0 0 22 ∷ row 1 0 0 22 ∷ row 8 0 0 22 ∷ row 26 0 0 22 ∷ row 14 0 0 18 ∷ row 10 0 0 16 ∷ row 14 0 0 18 ∷ row 10 0 0 18 ∷
          row 15 0 0 22 ∷ row 28 0 0 21 ∷ row 11 1 1 21 ∷ row 9 0 0 22 ∷ row 5 0 0 23 ∷ row 1 0 0 29 ∷ row 17 0 0 29 ∷ row 18 0 0 26 ∷ row 19 0 0 29 ∷
          row 4 0 0 29 ∷ row 11 1 1 29 ∷ []))
          (1 ∷ 0 ∷ 4 ∷ []);
    } ∷
    []

-- sections 13 and on
unfoldable pub from_thirteen : List Plot
from_thirteen =
    -- `class C { async m(x = super.y) {} }`, async on only: a parameter calls a Var of the body.
    record {
      chosen = switches false true false;
      names = (120 ∷ []) ∷ (121 ∷ []) ∷ (67 ∷ []) ∷ [];
      table = row 0 0 0 9 ∷ row 20 8 3 9 ∷ row 21 0 0 9 ∷ row 17 1 0 9 ∷ row 18 0 0 8 ∷ row 3 0 1 8 ∷ row 12 0 2 8 ∷ row 10 0 0 8 ∷ row 19 0 0 9 ∷ [];
      lent = room 2048 256;
      answer = converted
          (sheet (row 0 0 0 15 ∷ row 20 8 3 15 ∷ row 21 0 0 15 ∷ row 17 1 0 15 ∷ row 18 0 0 8 ∷ row 3 0 1 8 ∷ row 14 0 0 8 ∷ row 11 1 1 8 ∷ row 19 0 0 15 ∷
          row 2 0 0 15 ∷ row 3 1 1 15 ∷ row 16 2 0 15 ∷ row 18 0 0 13 ∷ row 12 0 2 15 ∷ row 10 0 0 15 ∷ []))
          (3 ∷ 2 ∷ 3 ∷ []);
    } ∷
    -- `function f(x = async () => arguments) {}`, async on only: a parameter reads a Var of the body.
    record {
      chosen = switches false true false;
      names = (102 ∷ []) ∷ (120 ∷ []) ∷ (97 ∷ 114 ∷ 103 ∷ 117 ∷ 109 ∷ 101 ∷ 110 ∷ 116 ∷ 115 ∷ []) ∷ [];
      table = row 0 0 0 8 ∷ row 17 8 1 8 ∷ row 18 0 0 7 ∷ row 3 0 2 7 ∷ row 16 3 0 7 ∷ row 18 0 0 6 ∷ row 11 0 3 7 ∷ row 19 0 0 8 ∷ [];
      lent = room 2048 256;
      answer = converted
          (sheet (row 0 0 0 11 ∷ row 17 8 1 11 ∷ row 18 0 0 7 ∷ row 3 0 2 7 ∷ row 16 3 0 7 ∷ row 18 0 0 6 ∷ row 11 1 1 7 ∷ row 19 0 0 11 ∷ row 2 0 0 11 ∷
          row 3 1 1 11 ∷ row 27 0 0 11 ∷ []))
          (2 ∷ 0 ∷ 1 ∷ []);
    } ∷
    -- `async () => function (x = arguments) {}`, async on only: a parameter reads a Var of the body.
    record {
      chosen = switches false true false;
      names = (120 ∷ []) ∷ (97 ∷ 114 ∷ 103 ∷ 117 ∷ 109 ∷ 101 ∷ 110 ∷ 116 ∷ 115 ∷ []) ∷ [];
      table = row 0 0 0 9 ∷ row 1 0 0 9 ∷ row 16 3 0 9 ∷ row 18 0 0 4 ∷ row 17 0 0 9 ∷ row 18 0 0 8 ∷ row 3 0 1 8 ∷ row 11 0 2 8 ∷ row 19 0 0 9 ∷ [];
      lent = room 2048 256;
      answer = converted
          (sheet (row 0 0 0 12 ∷ row 1 0 0 12 ∷ row 16 3 0 12 ∷ row 18 0 0 4 ∷ row 17 0 0 12 ∷ row 18 0 0 8 ∷ row 3 0 1 8 ∷ row 11 1 1 8 ∷ row 19 0 0 12 ∷
          row 2 0 0 12 ∷ row 3 1 1 12 ∷ row 27 0 0 12 ∷ []))
          (2 ∷ 0 ∷ 4 ∷ []);
    } ∷
    -- `class C { async m(x = arguments) {} }`, async on only: in the moved method's own Params `arguments` stays.
    record {
      chosen = switches false true false;
      names = (120 ∷ []) ∷ (97 ∷ 114 ∷ 103 ∷ 117 ∷ 109 ∷ 101 ∷ 110 ∷ 116 ∷ 115 ∷ []) ∷ (67 ∷ []) ∷ [];
      table = row 0 0 0 8 ∷ row 20 8 3 8 ∷ row 21 0 0 8 ∷ row 17 1 0 8 ∷ row 18 0 0 7 ∷ row 3 0 1 7 ∷ row 11 0 2 7 ∷ row 19 0 0 8 ∷ [];
      lent = room 2048 256;
      answer = converted
          (sheet (row 0 0 0 8 ∷ row 20 8 3 8 ∷ row 21 0 0 8 ∷ row 17 1 0 8 ∷ row 18 0 0 7 ∷ row 3 0 1 7 ∷ row 11 0 2 7 ∷ row 19 0 0 8 ∷ []))
          [];
    } ∷
    -- `class C { async m() { super.x += 2; } }`, async on only: the operator is ignored.
    record {
      chosen = switches false true false;
      names = (120 ∷ []) ∷ (67 ∷ []) ∷ [];
      table = row 0 0 0 12 ∷ row 20 8 2 12 ∷ row 21 0 0 12 ∷ row 17 1 0 12 ∷ row 18 0 0 5 ∷ row 19 0 0 12 ∷ row 1 0 0 12 ∷ row 15 1 0 12 ∷ row 28 0 0 11 ∷
          row 12 0 1 11 ∷ row 10 0 0 11 ∷ row 8 2 0 12 ∷ [];
      lent = room 2048 256;
      answer = converted
          (sheet (row 0 0 0 20 ∷ row 20 8 2 20 ∷ row 21 0 0 20 ∷ row 17 1 0 20 ∷ row 18 0 0 5 ∷ row 19 0 0 20 ∷ row 2 0 0 16 ∷ row 3 1 1 16 ∷ row 16 2 0 16 ∷
          row 18 0 0 11 ∷ row 3 1 2 11 ∷ row 15 0 0 16 ∷ row 28 0 0 15 ∷ row 12 0 1 15 ∷ row 10 0 0 15 ∷ row 11 1 2 16 ∷ row 1 0 0 20 ∷ row 14 0 0 20 ∷
          row 11 1 1 19 ∷ row 8 2 0 20 ∷ []))
          (4 ∷ 1 ∷ 3 ∷ 6 ∷ 0 ∷ 3 ∷ []);
    } ∷
    -- `class C { async m() { super.x ||= 2; } }`, async on only: the operator is ignored.
    record {
      chosen = switches false true false;
      names = (120 ∷ []) ∷ (67 ∷ []) ∷ [];
      table = row 0 0 0 12 ∷ row 20 8 2 12 ∷ row 21 0 0 12 ∷ row 17 1 0 12 ∷ row 18 0 0 5 ∷ row 19 0 0 12 ∷ row 1 0 0 12 ∷ row 15 13 0 12 ∷ row 28 0 0 11 ∷
          row 12 0 1 11 ∷ row 10 0 0 11 ∷ row 8 2 0 12 ∷ [];
      lent = room 2048 256;
      answer = converted
          (sheet (row 0 0 0 20 ∷ row 20 8 2 20 ∷ row 21 0 0 20 ∷ row 17 1 0 20 ∷ row 18 0 0 5 ∷ row 19 0 0 20 ∷ row 2 0 0 16 ∷ row 3 1 1 16 ∷ row 16 2 0 16 ∷
          row 18 0 0 11 ∷ row 3 1 2 11 ∷ row 15 0 0 16 ∷ row 28 0 0 15 ∷ row 12 0 1 15 ∷ row 10 0 0 15 ∷ row 11 1 2 16 ∷ row 1 0 0 20 ∷ row 14 0 0 20 ∷
          row 11 1 1 19 ∷ row 8 2 0 20 ∷ []))
          (4 ∷ 1 ∷ 3 ∷ 6 ∷ 0 ∷ 3 ∷ []);
    } ∷
    -- `class C { async m() { super.none(f()); } }`, async on only: `call` is looked up before `f()` is called.
    record {
      chosen = switches false true false;
      names = (110 ∷ 111 ∷ 110 ∷ 101 ∷ []) ∷ (102 ∷ []) ∷ (67 ∷ []) ∷ [];
      table = row 0 0 0 12 ∷ row 20 8 3 12 ∷ row 21 0 0 12 ∷ row 17 1 0 12 ∷ row 18 0 0 5 ∷ row 19 0 0 12 ∷ row 1 0 0 12 ∷ row 14 0 0 12 ∷ row 12 0 1 10 ∷
          row 10 0 0 10 ∷ row 14 0 0 12 ∷ row 11 0 2 12 ∷ [];
      lent = room 2048 256;
      answer = converted
          (sheet (row 0 0 0 22 ∷ row 20 8 3 22 ∷ row 21 0 0 22 ∷ row 17 1 0 22 ∷ row 18 0 0 5 ∷ row 19 0 0 22 ∷ row 2 0 0 14 ∷ row 3 1 1 12 ∷ row 16 2 0 12 ∷
          row 18 0 0 10 ∷ row 12 0 1 12 ∷ row 10 0 0 12 ∷ row 3 1 2 14 ∷ row 9 0 0 14 ∷ row 1 0 0 22 ∷ row 14 0 0 22 ∷ row 12 1 0 19 ∷ row 14 0 0 19 ∷
          row 11 1 1 19 ∷ row 11 1 2 20 ∷ row 14 0 0 22 ∷ row 11 0 2 22 ∷ []))
          (3 ∷ 1 ∷ 3 ∷ 1 ∷ 0 ∷ 3 ∷ []);
    } ∷
    -- `class C extends B { constructor() { (async () => super[k()])(); super(); } }`, async on only: `k()` comes before the check of `this`.
    record {
      chosen = switches false true false;
      names = (66 ∷ []) ∷ (107 ∷ []) ∷ (67 ∷ []) ∷ [];
      table = row 0 0 0 18 ∷ row 20 9 3 18 ∷ row 11 0 1 3 ∷ row 21 0 0 18 ∷ row 17 4 0 18 ∷ row 18 0 0 6 ∷ row 19 0 0 18 ∷ row 1 0 0 15 ∷ row 14 0 0 15 ∷
          row 16 3 0 15 ∷ row 18 0 0 11 ∷ row 13 0 0 15 ∷ row 10 0 0 13 ∷ row 14 0 0 15 ∷ row 11 0 2 15 ∷ row 1 0 0 18 ∷ row 14 0 0 18 ∷
          row 10 0 0 18 ∷ [];
      lent = room 2048 256;
      answer = converted
          (sheet (row 0 0 0 26 ∷ row 20 9 3 26 ∷ row 11 0 1 3 ∷ row 21 0 0 26 ∷ row 17 4 0 26 ∷ row 18 0 0 6 ∷ row 19 0 0 26 ∷ row 2 0 0 15 ∷ row 3 1 1 15 ∷
          row 16 2 0 15 ∷ row 18 0 0 12 ∷ row 3 1 2 12 ∷ row 13 0 0 15 ∷ row 10 0 0 14 ∷ row 11 1 2 15 ∷ row 1 0 0 23 ∷ row 14 0 0 23 ∷ row 16 3 0 23 ∷
          row 18 0 0 19 ∷ row 14 0 0 23 ∷ row 11 1 1 21 ∷ row 14 0 0 23 ∷ row 11 0 2 23 ∷ row 1 0 0 26 ∷ row 14 0 0 26 ∷ row 10 0 0 26 ∷ []))
          (3 ∷ 0 ∷ 4 ∷ 5 ∷ 0 ∷ 4 ∷ []);
    } ∷
    -- `function f() { (async () => arguments = 1)(); return arguments; }`, async on only: the copy is set.
    record {
      chosen = switches false true false;
      names = (102 ∷ []) ∷ (97 ∷ 114 ∷ 103 ∷ 117 ∷ 109 ∷ 101 ∷ 110 ∷ 116 ∷ 115 ∷ []) ∷ [];
      table = row 0 0 0 14 ∷ row 17 8 1 14 ∷ row 18 0 0 3 ∷ row 19 0 0 14 ∷ row 1 0 0 12 ∷ row 14 0 0 12 ∷ row 16 3 0 12 ∷ row 18 0 0 8 ∷ row 15 0 0 12 ∷
          row 28 0 0 11 ∷ row 11 0 2 11 ∷ row 8 1 0 12 ∷ row 4 0 0 14 ∷ row 11 0 2 14 ∷ [];
      lent = room 2048 256;
      answer = converted
          (sheet (row 0 0 0 17 ∷ row 17 8 1 17 ∷ row 18 0 0 3 ∷ row 19 0 0 17 ∷ row 2 0 0 7 ∷ row 3 1 1 7 ∷ row 27 0 0 7 ∷ row 1 0 0 15 ∷ row 14 0 0 15 ∷
          row 16 3 0 15 ∷ row 18 0 0 11 ∷ row 15 0 0 15 ∷ row 28 0 0 14 ∷ row 11 1 1 14 ∷ row 8 1 0 15 ∷ row 4 0 0 17 ∷ row 11 0 2 17 ∷ []))
          (2 ∷ 0 ∷ 1 ∷ []);
    } ∷
    -- `async () => arguments` at Program, async on only: guarded.
    record {
      chosen = switches false true false;
      names = (97 ∷ 114 ∷ 103 ∷ 117 ∷ 109 ∷ 101 ∷ 110 ∷ 116 ∷ 115 ∷ []) ∷ [];
      table = row 0 0 0 5 ∷ row 1 0 0 5 ∷ row 16 3 0 5 ∷ row 18 0 0 4 ∷ row 11 0 1 5 ∷ [];
      lent = room 2048 256;
      answer = converted
          (sheet (row 0 0 0 8 ∷ row 2 0 0 4 ∷ row 3 1 1 4 ∷ row 27 1 0 4 ∷ row 1 0 0 8 ∷ row 16 3 0 8 ∷ row 18 0 0 7 ∷ row 11 1 1 8 ∷ []))
          (2 ∷ 0 ∷ 0 ∷ []);
    } ∷
    -- `class C { async m() { super.x++; } }`, async on only: a Target's child is left, in code that a later pass moves.
    record {
      chosen = switches false true false;
      names = (120 ∷ []) ∷ (67 ∷ []) ∷ [];
      table = row 0 0 0 11 ∷ row 20 8 2 11 ∷ row 21 0 0 11 ∷ row 17 1 0 11 ∷ row 18 0 0 5 ∷ row 19 0 0 11 ∷ row 1 0 0 11 ∷ row 8 5 0 11 ∷ row 28 0 0 11 ∷
          row 12 0 1 11 ∷ row 10 0 0 11 ∷ [];
      lent = room 2048 256;
      answer = converted
          (sheet (row 0 0 0 11 ∷ row 20 8 2 11 ∷ row 21 0 0 11 ∷ row 17 1 0 11 ∷ row 18 0 0 5 ∷ row 19 0 0 11 ∷ row 1 0 0 11 ∷ row 8 5 0 11 ∷ row 28 0 0 11 ∷
          row 12 0 1 11 ∷ row 10 0 0 11 ∷ []))
          [];
    } ∷
    -- `class C extends B { constructor() { (async () => super())(); } }`, async on only: a called Super is left, in an arrow that a later pass moves.
    record {
      chosen = switches false true false;
      names = (66 ∷ []) ∷ (67 ∷ []) ∷ [];
      table = row 0 0 0 13 ∷ row 20 9 2 13 ∷ row 11 0 1 3 ∷ row 21 0 0 13 ∷ row 17 4 0 13 ∷ row 18 0 0 6 ∷ row 19 0 0 13 ∷ row 1 0 0 13 ∷ row 14 0 0 13 ∷
          row 16 3 0 13 ∷ row 18 0 0 11 ∷ row 14 0 0 13 ∷ row 10 0 0 13 ∷ [];
      lent = room 2048 256;
      answer = converted
          (sheet (row 0 0 0 13 ∷ row 20 9 2 13 ∷ row 11 0 1 3 ∷ row 21 0 0 13 ∷ row 17 4 0 13 ∷ row 18 0 0 6 ∷ row 19 0 0 13 ∷ row 1 0 0 13 ∷ row 14 0 0 13 ∷
          row 16 3 0 13 ∷ row 18 0 0 11 ∷ row 14 0 0 13 ∷ row 10 0 0 13 ∷ []))
          [];
    } ∷
    -- `class C { async m() { delete super.x; } }`, async on only: the operand is a call.
    record {
      chosen = switches false true false;
      names = (120 ∷ []) ∷ (67 ∷ []) ∷ [];
      table = row 0 0 0 10 ∷ row 20 8 2 10 ∷ row 21 0 0 10 ∷ row 17 1 0 10 ∷ row 18 0 0 5 ∷ row 19 0 0 10 ∷ row 1 0 0 10 ∷ row 8 6 0 10 ∷ row 12 0 1 10 ∷
          row 10 0 0 10 ∷ [];
      lent = room 2048 256;
      answer = converted
          (sheet (row 0 0 0 16 ∷ row 20 8 2 16 ∷ row 21 0 0 16 ∷ row 17 1 0 16 ∷ row 18 0 0 5 ∷ row 19 0 0 16 ∷ row 2 0 0 12 ∷ row 3 1 1 12 ∷ row 16 2 0 12 ∷
          row 18 0 0 10 ∷ row 12 0 1 12 ∷ row 10 0 0 12 ∷ row 1 0 0 16 ∷ row 8 6 0 16 ∷ row 14 0 0 16 ∷ row 11 1 1 16 ∷ []))
          (3 ∷ 1 ∷ 3 ∷ []);
    } ∷
    -- `class C { async m() { super.t``; } }`, async on only: the tag is a call, without its `this`.
    record {
      chosen = switches false true false;
      names = (116 ∷ []) ∷ (67 ∷ []) ∷ [];
      table = row 0 0 0 10 ∷ row 20 8 2 10 ∷ row 21 0 0 10 ∷ row 17 1 0 10 ∷ row 18 0 0 5 ∷ row 19 0 0 10 ∷ row 1 0 0 10 ∷ row 8 7 0 10 ∷ row 12 0 1 10 ∷
          row 10 0 0 10 ∷ [];
      lent = room 2048 256;
      answer = converted
          (sheet (row 0 0 0 16 ∷ row 20 8 2 16 ∷ row 21 0 0 16 ∷ row 17 1 0 16 ∷ row 18 0 0 5 ∷ row 19 0 0 16 ∷ row 2 0 0 12 ∷ row 3 1 1 12 ∷ row 16 2 0 12 ∷
          row 18 0 0 10 ∷ row 12 0 1 12 ∷ row 10 0 0 12 ∷ row 1 0 0 16 ∷ row 8 7 0 16 ∷ row 14 0 0 16 ∷ row 11 1 1 16 ∷ []))
          (3 ∷ 1 ∷ 3 ∷ []);
    } ∷
    -- `class C { x = { m() { super.y; } }; }`, arrows on: 7 at the Field, by the Super.
    record {
      chosen = switches true false false;
      names = (121 ∷ []) ∷ (67 ∷ []) ∷ [];
      table = row 0 0 0 11 ∷ row 20 8 2 11 ∷ row 22 4 0 11 ∷ row 24 0 0 11 ∷ row 25 2 0 11 ∷ row 17 0 0 11 ∷ row 18 0 0 7 ∷ row 19 0 0 11 ∷ row 1 0 0 11 ∷
          row 12 0 1 11 ∷ row 10 0 0 11 ∷ [];
      lent = room 2048 256;
      answer = refused 7 2;
    } ∷
    -- `class C { x = () => 1; }`, async on only: 7 at the Field, by the Arrow.
    record {
      chosen = switches false true false;
      names = (67 ∷ []) ∷ [];
      table = row 0 0 0 6 ∷ row 20 8 1 6 ∷ row 22 4 0 6 ∷ row 16 2 0 6 ∷ row 18 0 0 5 ∷ row 8 1 0 6 ∷ [];
      lent = room 2048 256;
      answer = refused 7 2;
    } ∷
    -- `({ get x() { super.y; } })`, arrows on: 6 at the Super.
    record {
      chosen = switches true false false;
      names = (121 ∷ []) ∷ [];
      table = row 0 0 0 10 ∷ row 1 0 0 10 ∷ row 24 0 0 10 ∷ row 25 0 0 10 ∷ row 17 0 0 10 ∷ row 18 0 0 6 ∷ row 19 0 0 10 ∷ row 1 0 0 10 ∷ row 12 0 1 10 ∷
          row 10 0 0 10 ∷ [];
      lent = room 2048 256;
      answer = refused 6 9;
    } ∷
    -- `var arguments; async () => arguments;`, async on only: 8 at the Declarator.
    record {
      chosen = switches false true false;
      names = (97 ∷ 114 ∷ 103 ∷ 117 ∷ 109 ∷ 101 ∷ 110 ∷ 116 ∷ 115 ∷ []) ∷ [];
      table = row 0 0 0 7 ∷ row 2 0 0 3 ∷ row 3 0 1 3 ∷ row 1 0 0 7 ∷ row 16 3 0 7 ∷ row 18 0 0 6 ∷ row 11 0 1 7 ∷ [];
      lent = room 2048 256;
      answer = refused 8 2;
    } ∷
    -- `try {} catch (arguments) { async () => arguments; }`, async on only: 8 does not see a name that no row has.
    record {
      chosen = switches false true false;
      names = (97 ∷ 114 ∷ 103 ∷ 117 ∷ 109 ∷ 101 ∷ 110 ∷ 116 ∷ 115 ∷ []) ∷ [];
      table = row 0 0 0 8 ∷ row 6 0 0 8 ∷ row 5 0 0 3 ∷ row 5 0 0 8 ∷ row 1 0 0 8 ∷ row 16 3 0 8 ∷ row 18 0 0 7 ∷ row 11 0 1 8 ∷ [];
      lent = room 2048 256;
      answer = converted
          (sheet (row 0 0 0 11 ∷ row 2 0 0 4 ∷ row 3 1 1 4 ∷ row 27 1 0 4 ∷ row 6 0 0 11 ∷ row 5 0 0 6 ∷ row 5 0 0 11 ∷ row 1 0 0 11 ∷ row 16 3 0 11 ∷
          row 18 0 0 10 ∷ row 11 1 1 11 ∷ []))
          (2 ∷ 0 ∷ 0 ∷ []);
    } ∷
    -- `() => { var arguments; return arguments; }`, arrows on: the variable starts as the function's own `arguments`.
    record {
      chosen = switches true false false;
      names = (97 ∷ 114 ∷ 103 ∷ 117 ∷ 109 ∷ 101 ∷ 110 ∷ 116 ∷ 115 ∷ []) ∷ [];
      table = row 0 0 0 9 ∷ row 1 0 0 9 ∷ row 16 0 0 9 ∷ row 18 0 0 4 ∷ row 19 0 0 9 ∷ row 2 0 0 7 ∷ row 3 0 1 7 ∷ row 4 0 0 9 ∷ row 11 0 1 9 ∷ [];
      lent = room 2048 256;
      answer = converted
          (sheet (row 0 0 0 9 ∷ row 1 0 0 9 ∷ row 17 0 0 9 ∷ row 18 0 0 4 ∷ row 19 0 0 9 ∷ row 2 0 0 7 ∷ row 3 0 1 7 ∷ row 4 0 0 9 ∷ row 11 0 1 9 ∷ []))
          [];
    } ∷
    -- `String(() => 1)`, arrows on: what a program can see of it is a function's.
    record {
      chosen = switches true false false;
      names = (83 ∷ 116 ∷ 114 ∷ 105 ∷ 110 ∷ 103 ∷ []) ∷ [];
      table = row 0 0 0 7 ∷ row 1 0 0 7 ∷ row 14 0 0 7 ∷ row 11 0 1 4 ∷ row 16 2 0 7 ∷ row 18 0 0 6 ∷ row 8 1 0 7 ∷ [];
      lent = room 2048 256;
      answer = converted
          (sheet (row 0 0 0 9 ∷ row 1 0 0 9 ∷ row 14 0 0 9 ∷ row 11 0 1 4 ∷ row 17 0 0 9 ∷ row 18 0 0 6 ∷ row 19 0 0 9 ∷ row 4 0 0 9 ∷ row 8 1 0 9 ∷ []))
          [];
    } ∷
    -- `class C extends B { x = cb(); constructor() { super(cb = () => this); } }`, arrows on: the field is set before the captured `this` is.
    record {
      chosen = switches true false false;
      names = (66 ∷ []) ∷ (99 ∷ 98 ∷ []) ∷ (67 ∷ []) ∷ [];
      table = row 0 0 0 19 ∷ row 20 9 3 19 ∷ row 11 0 1 3 ∷ row 22 4 0 6 ∷ row 14 0 0 6 ∷ row 11 0 2 6 ∷ row 21 0 0 19 ∷ row 17 4 0 19 ∷ row 18 0 0 9 ∷
          row 19 0 0 19 ∷ row 1 0 0 19 ∷ row 14 0 0 19 ∷ row 10 0 0 13 ∷ row 15 0 0 19 ∷ row 28 0 0 16 ∷ row 11 0 2 16 ∷ row 16 2 0 19 ∷ row 18 0 0 18 ∷
          row 9 0 0 19 ∷ [];
      lent = room 2048 256;
      answer = converted
          (sheet (row 0 0 0 28 ∷ row 20 9 3 28 ∷ row 11 0 1 3 ∷ row 22 4 0 6 ∷ row 14 0 0 6 ∷ row 11 0 2 6 ∷ row 21 0 0 28 ∷ row 17 4 0 28 ∷ row 18 0 0 9 ∷
          row 19 0 0 28 ∷ row 2 0 0 12 ∷ row 3 1 1 12 ∷ row 1 0 0 23 ∷ row 14 0 0 23 ∷ row 10 0 0 15 ∷ row 15 0 0 23 ∷ row 28 0 0 18 ∷ row 11 0 2 18 ∷
          row 17 0 0 23 ∷ row 18 0 0 20 ∷ row 19 0 0 23 ∷ row 4 0 0 23 ∷ row 11 1 1 23 ∷ row 1 0 0 28 ∷ row 15 0 0 28 ∷ row 28 0 0 27 ∷ row 11 1 1 27 ∷
          row 9 0 0 28 ∷ []))
          (1 ∷ 0 ∷ 7 ∷ []);
    } ∷
    -- `class C { constructor() { class D { static { super.x; } } () => this; } }`, arrows on: the captured `this` is never set.
    record {
      chosen = switches true false false;
      names = (120 ∷ []) ∷ (68 ∷ []) ∷ (67 ∷ []) ∷ [];
      table = row 0 0 0 15 ∷ row 20 8 3 15 ∷ row 21 0 0 15 ∷ row 17 4 0 15 ∷ row 18 0 0 5 ∷ row 19 0 0 15 ∷ row 20 8 2 11 ∷ row 23 0 0 11 ∷ row 1 0 0 11 ∷
          row 12 0 1 11 ∷ row 10 0 0 11 ∷ row 1 0 0 15 ∷ row 16 2 0 15 ∷ row 18 0 0 14 ∷ row 9 0 0 15 ∷ [];
      lent = room 2048 256;
      answer = converted
          (sheet (row 0 0 0 19 ∷ row 20 8 3 19 ∷ row 21 0 0 19 ∷ row 17 4 0 19 ∷ row 18 0 0 5 ∷ row 19 0 0 19 ∷ row 2 0 0 8 ∷ row 3 1 1 8 ∷ row 20 8 2 13 ∷
          row 23 0 0 13 ∷ row 1 0 0 13 ∷ row 12 0 1 13 ∷ row 10 0 0 13 ∷ row 1 0 0 19 ∷ row 17 0 0 19 ∷ row 18 0 0 16 ∷ row 19 0 0 19 ∷ row 4 0 0 19 ∷
          row 11 1 1 19 ∷ []))
          (1 ∷ 0 ∷ 3 ∷ []);
    } ∷
    -- `class C { constructor() { class D { [super.x]() {} } () => this; } }`, arrows on: the captured `this` is never set.
    record {
      chosen = switches true false false;
      names = (120 ∷ []) ∷ (68 ∷ []) ∷ (67 ∷ []) ∷ [];
      table = row 0 0 0 17 ∷ row 20 8 3 17 ∷ row 21 0 0 17 ∷ row 17 4 0 17 ∷ row 18 0 0 5 ∷ row 19 0 0 17 ∷ row 20 8 2 13 ∷ row 21 1 0 13 ∷ row 12 0 1 10 ∷
          row 10 0 0 10 ∷ row 17 0 0 13 ∷ row 18 0 0 12 ∷ row 19 0 0 13 ∷ row 1 0 0 17 ∷ row 16 2 0 17 ∷ row 18 0 0 16 ∷ row 9 0 0 17 ∷ [];
      lent = room 2048 256;
      answer = converted
          (sheet (row 0 0 0 21 ∷ row 20 8 3 21 ∷ row 21 0 0 21 ∷ row 17 4 0 21 ∷ row 18 0 0 5 ∷ row 19 0 0 21 ∷ row 2 0 0 8 ∷ row 3 1 1 8 ∷ row 20 8 2 15 ∷
          row 21 1 0 15 ∷ row 12 0 1 12 ∷ row 10 0 0 12 ∷ row 17 0 0 15 ∷ row 18 0 0 14 ∷ row 19 0 0 15 ∷ row 1 0 0 21 ∷ row 17 0 0 21 ∷ row 18 0 0 18 ∷
          row 19 0 0 21 ∷ row 4 0 0 21 ∷ row 11 1 1 21 ∷ []))
          (1 ∷ 0 ∷ 3 ∷ []);
    } ∷
    -- `class C extends B { constructor() { eval("super()"); () => this; } }`, arrows on: `this` is read at the start.
    record {
      chosen = switches true false false;
      names = (66 ∷ []) ∷ (101 ∷ 118 ∷ 97 ∷ 108 ∷ []) ∷ (67 ∷ []) ∷ [];
      table = row 0 0 0 15 ∷ row 20 9 3 15 ∷ row 11 0 1 3 ∷ row 21 0 0 15 ∷ row 17 4 0 15 ∷ row 18 0 0 6 ∷ row 19 0 0 15 ∷ row 1 0 0 11 ∷ row 14 0 0 11 ∷
          row 11 0 2 10 ∷ row 8 2 0 11 ∷ row 1 0 0 15 ∷ row 16 2 0 15 ∷ row 18 0 0 14 ∷ row 9 0 0 15 ∷ [];
      lent = room 2048 256;
      answer = converted
          (sheet (row 0 0 0 20 ∷ row 20 9 3 20 ∷ row 11 0 1 3 ∷ row 21 0 0 20 ∷ row 17 4 0 20 ∷ row 18 0 0 6 ∷ row 19 0 0 20 ∷ row 2 0 0 10 ∷ row 3 1 1 10 ∷
          row 9 0 0 10 ∷ row 1 0 0 14 ∷ row 14 0 0 14 ∷ row 11 0 2 13 ∷ row 8 2 0 14 ∷ row 1 0 0 20 ∷ row 17 0 0 20 ∷ row 18 0 0 17 ∷ row 19 0 0 20 ∷
          row 4 0 0 20 ∷ row 11 1 1 20 ∷ []))
          (1 ∷ 0 ∷ 4 ∷ []);
    } ∷
    -- `function f() { arguments = 1; return (async () => arguments)(); }`, async on only: the copy is made before the assignment.
    record {
      chosen = switches false true false;
      names = (102 ∷ []) ∷ (97 ∷ 114 ∷ 103 ∷ 117 ∷ 109 ∷ 101 ∷ 110 ∷ 116 ∷ 115 ∷ []) ∷ [];
      table = row 0 0 0 14 ∷ row 17 8 1 14 ∷ row 18 0 0 3 ∷ row 19 0 0 14 ∷ row 1 0 0 9 ∷ row 15 0 0 9 ∷ row 28 0 0 8 ∷ row 11 0 2 8 ∷ row 8 1 0 9 ∷
          row 4 0 0 14 ∷ row 14 0 0 14 ∷ row 16 3 0 14 ∷ row 18 0 0 13 ∷ row 11 0 2 14 ∷ [];
      lent = room 2048 256;
      answer = converted
          (sheet (row 0 0 0 17 ∷ row 17 8 1 17 ∷ row 18 0 0 3 ∷ row 19 0 0 17 ∷ row 2 0 0 7 ∷ row 3 1 1 7 ∷ row 27 0 0 7 ∷ row 1 0 0 12 ∷ row 15 0 0 12 ∷
          row 28 0 0 11 ∷ row 11 0 2 11 ∷ row 8 1 0 12 ∷ row 4 0 0 17 ∷ row 14 0 0 17 ∷ row 16 3 0 17 ∷ row 18 0 0 16 ∷ row 11 1 1 17 ∷ []))
          (2 ∷ 0 ∷ 1 ∷ []);
    } ∷
    -- `with ({ arguments: 5 }) { async () => arguments; }`, async on only: the copy is made outside of the `with`, an Other.
    record {
      chosen = switches false true false;
      names = (97 ∷ 114 ∷ 103 ∷ 117 ∷ 109 ∷ 101 ∷ 110 ∷ 116 ∷ 115 ∷ []) ∷ [];
      table = row 0 0 0 10 ∷ row 6 0 0 10 ∷ row 24 0 0 5 ∷ row 25 0 0 5 ∷ row 8 1 0 5 ∷ row 5 0 0 10 ∷ row 1 0 0 10 ∷ row 16 3 0 10 ∷ row 18 0 0 9 ∷
          row 11 0 1 10 ∷ [];
      lent = room 2048 256;
      answer = converted
          (sheet (row 0 0 0 13 ∷ row 2 0 0 4 ∷ row 3 1 1 4 ∷ row 27 1 0 4 ∷ row 6 0 0 13 ∷ row 24 0 0 8 ∷ row 25 0 0 8 ∷ row 8 1 0 8 ∷ row 5 0 0 13 ∷
          row 1 0 0 13 ∷ row 16 3 0 13 ∷ row 18 0 0 12 ∷ row 11 1 1 13 ∷ []))
          (2 ∷ 0 ∷ 0 ∷ []);
    } ∷
    []

-- one list; what the Rust and ECMA-262 say of each script is on the page
unfoldable pub differences : List Plot
differences = first_twelve ++ from_thirteen
