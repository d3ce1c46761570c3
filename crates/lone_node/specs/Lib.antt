pub mod LoneNode
