pub mod HeldData
