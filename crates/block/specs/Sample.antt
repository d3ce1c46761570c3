-- Two blocks byte for byte: that of the reset state, and one with something in every field. docs/BLOCK.md.
use Rattle.std.specs.Prelude.{true, false, List, [], ◌∷◌, ◌++◌, ◌≡◌, ℕ, replicate, set, Some}
use Rattle.model.specs.Registers.{reset}
use Rattle.model.specs.Reception.{no_frame}
use Rattle.model.specs.Records.{bytes_of}
use Rattle.model.specs.declared.Mailbox.TheVariants.{M0, M2}
use Rattle.model.specs.declared.RequestOrder.TheVariants.{Two}
use Rattle.model.specs.declared.Mode.TheVariants.{Normal}
use Rattle.model.specs.declared.Controller.{Controller}
use Rattle.block.specs.Block.{bytes16, bytes32, saved}
use Rattle.block.specs.Loading.{load_code, loaded}

-- ---- the reset state: all but these bytes are 0

abbrev pub reset_control : List ℕ
reset_control = 0x40 ∷ 0x14 ∷ 0 ∷ 2 ∷ 0 ∷ 1 ∷ 0 ∷ 0 ∷ 0 ∷ 0 ∷ 0 ∷ 0 ∷ 0 ∷ 0x23 ∷ 1 ∷ 0 ∷ 0 ∷ 2 ∷ 0 ∷ 0 ∷ 0 ∷ 0 ∷ 0 ∷ []

-- a field whose body is zeros
abbrev pub zeros : ℕ → ℕ → ℕ → List ℕ
zeros t length body = t ∷ length ∷ 0 ∷ replicate body 0

abbrev pub reset_block : List ℕ
reset_block =
    reset_control ++ (zeros 0x41 4 4 ++ (zeros 0x42 20 20 ++ (zeros 0x43 20 20 ++ (zeros 0x44 20 20
    ++ ((0x45 ∷ 7 ∷ 0 ∷ 3 ∷ 3 ∷ 3 ∷ 3 ∷ 0 ∷ 0 ∷ 0 ∷ []) ++ (zeros 0x46 52 52 ++ (zeros 0x47 52 52 ++ ((zeros 0x48 17 16 ++ (1 ∷ [])) ++ zeros 0x49 112 112))))))))

-- ---- a controller in the middle of its work

abbrev pub busy : Controller
busy = record {
  core = record {
    control = record { mcr = 0x000100C4; ier = 0x00038F7F; btr = 0x41230029; timer = 0x1234; mode = Normal; recovery = 0; reinitialized = false; erri = true; wkui = true; slaki = false };
    errors = record { tec = 0x65; rec = 0x2A; lec = 3 };
    transmit = record {
      mailboxes = record {
        m0 = record { ti = 0x24600004; tdt = 0x00010102; tdl = 0x04030201; tdh = 0x08070605; rqcp = false; txok = false; alst = false; terr = true };
        m1 = record { ti = 0x00a00000; tdt = 0x22330008; tdl = 0x14131211; tdh = 0x18171615; rqcp = true; txok = true; alst = false; terr = false };
        m2 = record { ti = 0x91a2b3c6; tdt = 0x44550005; tdl = 0x24232221; tdh = 0x28272625; rqcp = false; txok = false; alst = true; terr = false };
      };
      queue = record { order = Two M2 M0; transmitting = Some M2; aborts = record { m0 = false; m1 = false; m2 = true } };
    };
    fifo0 = record {
      first = record { ri = 0x24600000; rdt = 0x10010702; rdl = 0x00003231; rdh = 0x00000000 };
      second = record { ri = 0x12345674; rdt = 0x20020903; rdl = 0x00434241; rdh = 0x00000000 };
      third = no_frame;
      count = 2;
      full = false;
      fovr = false;
    };
    fifo1 = record {
      first = record { ri = 0x7fe00002; rdt = 0x30032b08; rdl = 0x00000000; rdh = 0x00000000 };
      second = record { ri = 0x68c00000; rdt = 0x40040006; rdl = 0x64636261; rdh = 0x00006665 };
      third = record { ri = 0x0ab0c0d4; rdt = 0x5005370f; rdl = 0x74737271; rdh = 0x78777675 };
      count = 3;
      full = true;
      fovr = true;
    };
    filters = record { mode = 0x0001; scale = 0x1002; assignment = 0x2003; activation = 0x3004; finit = false };
  };
  banks =
      0xa0000000 ∷ 0xa1010101 ∷ 0xa2020202 ∷ 0xa3030303 ∷ 0xa4040404 ∷ 0xa5050505 ∷ 0xa6060606 ∷
      0xa7070707 ∷ 0xa8080808 ∷ 0xa9090909 ∷ 0xaa0a0a0a ∷ 0xab0b0b0b ∷ 0xac0c0c0c ∷ 0xad0d0d0d ∷
      0xae0e0e0e ∷ 0xaf0f0f0f ∷ 0xb0101010 ∷ 0xb1111111 ∷ 0xb2121212 ∷ 0xb3131313 ∷ 0xb4141414 ∷
      0xb5151515 ∷ 0xb6161616 ∷ 0xb7171717 ∷ 0xb8181818 ∷ 0xb9191919 ∷ 0xba1a1a1a ∷ 0xbb1b1b1b ∷ [];
}

abbrev pub busy_block : List ℕ
busy_block =
    0x40 ∷ 0x14 ∷ 0 ∷ 0xc4 ∷ 0 ∷ 1 ∷ 0 ∷ 0x7f ∷ 0x8f ∷ 3 ∷ 0 ∷ 0x29 ∷ 0 ∷ 0x23 ∷ 0x41 ∷ 0x34 ∷ 0x12 ∷ 0 ∷ 0 ∷ 0 ∷ 1 ∷ 1 ∷ 0 ∷
    0x41 ∷ 4 ∷ 0 ∷ 0x65 ∷ 0 ∷ 0x2a ∷ 3 ∷
    0x42 ∷ 0x14 ∷ 0 ∷ 4 ∷ 0 ∷ 0x60 ∷ 0x24 ∷ 2 ∷ 1 ∷ 1 ∷ 0 ∷ 1 ∷ 2 ∷ 3 ∷ 4 ∷ 5 ∷ 6 ∷ 7 ∷ 8 ∷ 0 ∷ 0 ∷ 0 ∷ 1 ∷
    0x43 ∷ 0x14 ∷ 0 ∷ 0 ∷ 0 ∷ 0xa0 ∷ 0 ∷ 8 ∷ 0 ∷ 0x33 ∷ 0x22 ∷ 0x11 ∷ 0x12 ∷ 0x13 ∷ 0x14 ∷ 0x15 ∷ 0x16 ∷ 0x17 ∷ 0x18 ∷ 1 ∷ 1 ∷ 0 ∷ 0 ∷
    0x44 ∷ 0x14 ∷ 0 ∷ 0xc6 ∷ 0xb3 ∷ 0xa2 ∷ 0x91 ∷ 5 ∷ 0 ∷ 0x55 ∷ 0x44 ∷ 0x21 ∷ 0x22 ∷ 0x23 ∷ 0x24 ∷ 0x25 ∷ 0x26 ∷ 0x27 ∷ 0x28 ∷ 0 ∷ 0 ∷ 1 ∷ 0 ∷
    0x45 ∷ 7 ∷ 0 ∷ 2 ∷ 0 ∷ 3 ∷ 2 ∷ 0 ∷ 0 ∷ 1 ∷
    0x46 ∷ 0x34 ∷ 0 ∷
    0 ∷ 0 ∷ 0x60 ∷ 0x24 ∷ 2 ∷ 7 ∷ 1 ∷ 0x10 ∷ 0x31 ∷ 0x32 ∷ 0 ∷ 0 ∷ 0 ∷ 0 ∷ 0 ∷ 0 ∷
    0x74 ∷ 0x56 ∷ 0x34 ∷ 0x12 ∷ 3 ∷ 9 ∷ 2 ∷ 0x20 ∷ 0x41 ∷ 0x42 ∷ 0x43 ∷ 0 ∷ 0 ∷ 0 ∷ 0 ∷ 0 ∷
    0 ∷ 0 ∷ 0 ∷ 0 ∷ 0 ∷ 0 ∷ 0 ∷ 0 ∷ 0 ∷ 0 ∷ 0 ∷ 0 ∷ 0 ∷ 0 ∷ 0 ∷ 0 ∷
    2 ∷ 0 ∷ 0 ∷ 0 ∷
    0x47 ∷ 0x34 ∷ 0 ∷
    2 ∷ 0 ∷ 0xe0 ∷ 0x7f ∷ 8 ∷ 0x2b ∷ 3 ∷ 0x30 ∷ 0 ∷ 0 ∷ 0 ∷ 0 ∷ 0 ∷ 0 ∷ 0 ∷ 0 ∷
    0 ∷ 0 ∷ 0xc0 ∷ 0x68 ∷ 6 ∷ 0 ∷ 4 ∷ 0x40 ∷ 0x61 ∷ 0x62 ∷ 0x63 ∷ 0x64 ∷ 0x65 ∷ 0x66 ∷ 0 ∷ 0 ∷
    0xd4 ∷ 0xc0 ∷ 0xb0 ∷ 0xa ∷ 0xf ∷ 0x37 ∷ 5 ∷ 0x50 ∷ 0x71 ∷ 0x72 ∷ 0x73 ∷ 0x74 ∷ 0x75 ∷ 0x76 ∷ 0x77 ∷ 0x78 ∷
    3 ∷ 0 ∷ 1 ∷ 1 ∷
    0x48 ∷ 0x11 ∷ 0 ∷ 1 ∷ 0 ∷ 0 ∷ 0 ∷ 2 ∷ 0x10 ∷ 0 ∷ 0 ∷ 3 ∷ 0x20 ∷ 0 ∷ 0 ∷ 4 ∷ 0x30 ∷ 0 ∷ 0 ∷ 0 ∷
    0x49 ∷ 0x70 ∷ 0 ∷
    0 ∷ 0 ∷ 0 ∷ 0xa0 ∷ 1 ∷ 1 ∷ 1 ∷ 0xa1 ∷ 2 ∷ 2 ∷ 2 ∷ 0xa2 ∷ 3 ∷ 3 ∷ 3 ∷ 0xa3 ∷
    4 ∷ 4 ∷ 4 ∷ 0xa4 ∷ 5 ∷ 5 ∷ 5 ∷ 0xa5 ∷ 6 ∷ 6 ∷ 6 ∷ 0xa6 ∷ 7 ∷ 7 ∷ 7 ∷ 0xa7 ∷
    8 ∷ 8 ∷ 8 ∷ 0xa8 ∷ 9 ∷ 9 ∷ 9 ∷ 0xa9 ∷ 0xa ∷ 0xa ∷ 0xa ∷ 0xaa ∷ 0xb ∷ 0xb ∷ 0xb ∷ 0xab ∷
    0xc ∷ 0xc ∷ 0xc ∷ 0xac ∷ 0xd ∷ 0xd ∷ 0xd ∷ 0xad ∷ 0xe ∷ 0xe ∷ 0xe ∷ 0xae ∷ 0xf ∷ 0xf ∷ 0xf ∷ 0xaf ∷
    0x10 ∷ 0x10 ∷ 0x10 ∷ 0xb0 ∷ 0x11 ∷ 0x11 ∷ 0x11 ∷ 0xb1 ∷ 0x12 ∷ 0x12 ∷ 0x12 ∷ 0xb2 ∷ 0x13 ∷ 0x13 ∷ 0x13 ∷ 0xb3 ∷
    0x14 ∷ 0x14 ∷ 0x14 ∷ 0xb4 ∷ 0x15 ∷ 0x15 ∷ 0x15 ∷ 0xb5 ∷ 0x16 ∷ 0x16 ∷ 0x16 ∷ 0xb6 ∷ 0x17 ∷ 0x17 ∷ 0x17 ∷ 0xb7 ∷
    0x18 ∷ 0x18 ∷ 0x18 ∷ 0xb8 ∷ 0x19 ∷ 0x19 ∷ 0x19 ∷ 0xb9 ∷ 0x1a ∷ 0x1a ∷ 0x1a ∷ 0xba ∷ 0x1b ∷ 0x1b ∷ 0x1b ∷ 0xbb ∷
    []

-- the same with TEC 264, and with the frame on the wire of a mailbox that has no request
abbrev pub beyond : List ℕ
beyond = set (set busy_block 26 0x08) 27 0x01

abbrev pub unasked : List ℕ
unasked = set busy_block 105 1

-- numbers stand in a block as in a record of a script
pub record Numbers (n : ℕ) : Type 0 where
  pub two : bytes16 n ≡ bytes_of 2 n
  pub four : bytes32 n ≡ bytes_of 4 n

pub record Samples : Type 0 where
  pub resets : saved reset ≡ reset_block
  pub saves : saved busy ≡ busy_block
  pub code : load_code busy_block ≡ 0
  pub loads : loaded busy_block ≡ busy
  pub too_high : load_code beyond ≡ 10
  pub no_request : load_code unasked ≡ 10
